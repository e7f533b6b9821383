-- The reader reads exactly the texts of forms, and no two forms have one text. Assumes nothing.
use mathlib.Core.Path.{◌≡◌, refl, sym, ap, ◌∙◌}
use mathlib.Core.List.{List, [], ◌∷◌, ◌++◌}
use mathlib.Core.Option.{Option, none, some}
use mathlib.Core.Bool.{cond}
use Prim.Native.Nat.{ℕ, ◌*◌, ◌≤◌}
use native.Mathlib.Omega.{arith}
use borrow.Author.Tests.{le-leb, leb-true}
use lib.Dec.{leb}
use lib.ListN.{length, drop, length-append}
use Rattle.forms.specs.Bytes.{bytes}
use Rattle.forms.specs.Text.{Form, node, route, «open», step, send, close, show, net, take_down, list_text, text, numbers}
use Rattle.forms.specs.Read.{starts, fields, form_with, route_with, open_with, step_with, send_with, close_with, show_with, net_with, take_down_with, plain_form, form_of, read}
use Rattle.forms.specs.Held.{firsts}
use Rattle.forms.specs.Exact.{Digits, IsForm, ReadsExactly}
use Rattle.forms.proofs.Ways.{cond_way, nothing, some_same}
use Rattle.forms.proofs.Words.{starts_way}
use Rattle.forms.proofs.Lists.{firsts_all, fields_sound, digits_join, fields_complete, list_digits}
use Rattle.forms.proofs.NodeForm.{Says, node_sound, node_complete}

-- the form of n numbers is the word w and those numbers
abbrev Worded : List ℕ → ℕ → (List ℕ → Form) → Type 0
Worded w n form = (ns : List ℕ) → (numbers (form ns) ≡ firsts n ns) × (text (form ns) ≡ w ++ list_text (numbers (form ns)))

module _ (most room : ℕ) (f : Form) (l : List ℕ) where
  -- behind w stand the numbers of a form
  numbers_sound : (w : List ℕ) (n : ℕ) (form : List ℕ → Form) (y : Option Form) → n ≤ 3 → Worded w n form → (y ≡ some f → Says most l f)
      → cond (starts w l) (form_with form (fields most n (drop (length w) l))) y ≡ some f → Says most l f
  numbers_sound w n form y h worded = starts_way (λ m. Says most m f) w l _ y (go (fields most n (drop (length w) l)) refl)
    where
      go : (o : Option (List ℕ)) → fields most n (drop (length w) l) ≡ o → form_with form o ≡ some f → Says most (w ++ drop (length w) l) f
      go none p = nothing
      go (some ns) p =
          let x = fields_sound most n (drop (length w) l) ns p in
          let q : numbers (form ns) ≡ ns = (worded ns).0 ∙ firsts_all ns n x.count h in
          let same = ap (λ (r : List ℕ). w ++ r) (x.same ∙ ap list_text (sym q)) ∙ sym (worded ns).1 in
          some_same (Says most _) (record { same = same; digits = rw q x.digits })

  form_sound : form_of most room l ≡ some f → Says most l f
  unfolding form_of plain_form text
  form_sound =
      starts_way (λ m. Says most m f) (bytes "(node ") l _ _ (node_sound most room f (drop 6 l))
      (numbers_sound (bytes "(route") 3 route_with _ (omega arith) (λ ns. (refl, refl))
      (numbers_sound (bytes "(open") 3 open_with _ (omega arith) (λ ns. (refl, refl))
      (numbers_sound (bytes "(step") 2 step_with _ (omega arith) (λ ns. (refl, refl))
      (numbers_sound (bytes "(send") 3 send_with _ (omega arith) (λ ns. (refl, refl))
      (numbers_sound (bytes "(close") 1 close_with _ (omega arith) (λ ns. (refl, refl))
      (numbers_sound (bytes "(show") 0 show_with _ (omega arith) (λ ns. (refl, refl))
      (numbers_sound (bytes "(net") 0 net_with _ (omega arith) (λ ns. (refl, refl))
      (numbers_sound (bytes "(drop") 2 take_down_with _ (omega arith) (λ ns. (refl, refl)) nothing))))))))

-- ---- what is written is read

form_complete : (most room : ℕ) (f : Form) → length (text f) ≤ room * 2 → Digits most (numbers f) → form_of most room (text f) ≡ some f
unfolding form_of plain_form text starts
form_complete most room (node a k has needs) h d = node_complete most room a k has needs h d
form_complete most room (route a b n) h d = ap (form_with route_with) (fields_complete most 3 (a ∷ b ∷ n ∷ []) refl (omega arith) d)
form_complete most room («open» u c e) h d = ap (form_with open_with) (fields_complete most 3 (u ∷ c ∷ e ∷ []) refl (omega arith) d)
form_complete most room (step u k) h d = ap (form_with step_with) (fields_complete most 2 (u ∷ k ∷ []) refl (omega arith) d)
form_complete most room (send u w t) h d = ap (form_with send_with) (fields_complete most 3 (u ∷ w ∷ t ∷ []) refl (omega arith) d)
form_complete most room (close u) h d = ap (form_with close_with) (fields_complete most 1 (u ∷ []) refl (omega arith) d)
form_complete most room show h d = ap (form_with show_with) (fields_complete most 0 [] refl (omega arith) d)
form_complete most room net h d = ap (form_with net_with) (fields_complete most 0 [] refl (omega arith) d)
form_complete most room (take_down u e) h d = ap (form_with take_down_with) (fields_complete most 2 (u ∷ e ∷ []) refl (omega arith) d)

-- no number is longer than its form
form_digits : (most : ℕ) (f : Form) → length (text f) ≤ most → Digits most (numbers f)
unfolding text
form_digits most (node a k has needs) h =
    let w = simp length-append at h in
    (omega arith, digits_join most has needs (list_digits most has (omega arith)) (list_digits most needs (omega arith)))
form_digits most (route a b n) h = list_digits most (a ∷ b ∷ n ∷ []) (omega arith)
form_digits most («open» u c d) h = list_digits most (u ∷ c ∷ d ∷ []) (omega arith)
form_digits most (step u k) h = list_digits most (u ∷ k ∷ []) (omega arith)
form_digits most (send u w t) h = list_digits most (u ∷ w ∷ t ∷ []) (omega arith)
form_digits most (close u) h = list_digits most (u ∷ []) (omega arith)
form_digits most show h = tt
form_digits most net h = tt
form_digits most (take_down u e) h = list_digits most (u ∷ e ∷ []) (omega arith)

-- ---- the theorem

read_sound : (l : List ℕ) (f : Form) → read l ≡ some f → IsForm l f
unfolding read
read_sound l f =
    cond_way (leb (length l) 400) _ none
    (λ q e. let x = form_sound 10 200 f l e in
    record { written = x.same; short = leb-true (length l) 400 q; digits = x.digits (omega arith) })
    (λ q. nothing)

read_complete : (l : List ℕ) (f : Form) → IsForm l f → read l ≡ some f
unfolding read
read_complete l f h =
    let s : length (text f) ≤ 400 = rw h.written at h.short in
    rw (le-leb (length l) 400 h.short, h.written) (form_complete 10 200 f s h.digits)

-- each form is what is read of its text, with digits and room enough
text_injective : (f g : Form) → text f ≡ text g → f ≡ g
text_injective f g e =
    let n = length (text f) in
    let s : length (text g) ≤ n = omega (arith, ap length e) in
    let p = form_complete n n f (omega arith) (form_digits n f (omega arith)) in
    let q = form_complete n n g (omega arith) (form_digits n g s) in
    cc

pub reads_exactly : ReadsExactly
reads_exactly = record { exact = λ l f. (read_sound l f, read_complete l f); injective = text_injective }
