-- Laws of texts put into an output, part by part. Assumes nothing.
use mathlib.Core.Path.{◌≡◌, refl, sym, ◌∙◌}
use mathlib.Core.List.{List, [], ◌∷◌, ◌++◌, append_assoc}
use Prim.Native.Nat.{ℕ, suc, ◌+◌, ◌≤◌}
use native.Mathlib.Nat.{add-zero}
use native.Mathlib.Omega.{arith}
use borrow.Rule.Slice.PartMut.{put_mid}
use lib.ListN.{length, set, take, drop, length-append}
use lib.Seq.{sets}
use Rattle.std.proofs.lemmas.List.Edits.{sets-eq, paste_all}
use Rattle.std.proofs.lemmas.Slice.{put_mid-paste}
use Rattle.forms.specs.Text.{number_text, list_text}
use Rattle.forms.specs.Answer.{line_text}
use Rattle.answers.specs.declared.put.Output.{Output}
use Rattle.answers.specs.Put.{Put, Adds}

-- a text in two parts is put part by part
sets_append : (l : List ℕ) (at : ℕ) (bs cs : List ℕ) → sets l at (bs ++ cs) ≡ sets (sets l at bs) (at + length bs) cs
sets_append l at [] cs = rw add-zero
sets_append l at (b ∷ bs) cs =
    let e : suc at + length bs ≡ at + suc (length bs) = omega arith in
    rw (sets_append (set l at b) (suc at) bs cs, e)

pub put_none : {l : List ℕ} {at : ℕ} → Put l at [] l at
put_none {at = at} = record { place = sym (add-zero at); bytes = refl }

pub put_append : {l m n bs cs : List ℕ} {at p q : ℕ} → Put l at bs m p → Put m p cs n q → Put l at (bs ++ cs) n q
put_append {l} {bs = bs} {cs = cs} {at = at} e f = record {
  place = omega (arith, e.place, f.place, length-append bs cs);
  bytes = rw (sets_append l at bs cs, ← e.bytes, ← e.place) f.bytes;
}

-- a line is put by its word and first number, then the line of the others
pub put_more : {l m k : List ℕ} {at p q : ℕ} (word : List ℕ) (n : ℕ) (ns : List ℕ) → Put l at (word ++ number_text n) m p
    → Put m p (line_text [] ns) k q
    → Put l at (line_text word (n ∷ ns)) k q
unfolding list_text
put_more word n ns e f = simp append_assoc (simp append_assoc at (put_append e f))

-- a text copied to a part of its length is put there
pub put_copied : (l text m : List ℕ) (at k p : ℕ) → at + length text ≤ length l → m ≡ text → k ≡ length text → p ≡ at + length text
    → Put l at text (put_mid at k l m) p
put_copied l text m at k p h e f place = record {
  place = place;
  bytes = put_mid-paste at k l m text (length text) e (sym f) refl
      ∙ (paste_all l at text (length text) refl ∙ (sym (append_assoc (take at l) text (drop (at + length text) l)) ∙ sym (sets-eq text l at h)));
}

-- ---- the same of an output that holds its place

pub adds_none : {s : Output} → Adds s [] s
adds_none = record { put = put_none; size = refl; same = refl }

pub adds_append : {s t u : Output} {bs cs : List ℕ} → Adds s bs t → Adds t cs u → Adds s (bs ++ cs) u
adds_append e f = record { put = put_append e.put f.put; size = f.size ∙ e.size; same = f.same ∙ e.same }

pub adds_more : {s t u : Output} (word : List ℕ) (n : ℕ) (ns : List ℕ) → Adds s (word ++ number_text n) t → Adds t (line_text [] ns) u
    → Adds s (line_text word (n ∷ ns)) u
adds_more word n ns e f = record { put = put_more word n ns e.put f.put; size = f.size ∙ e.size; same = f.same ∙ e.same }

-- to add the rest to t is to add the text to s
pub record Left (s : Output) (text : List ℕ) (t : Output) (rest : List ℕ) : Type 0 where
  pub all : (u : Output) → Adds t rest u → Adds s text u
  pub place : t.at + length rest ≡ s.at + length text
  pub size : length t.out.now ≡ length s.out.now

pub left_part : {s t u : Output} {text bs : List ℕ} (cs : List ℕ) → Adds t bs u → Left s text t (bs ++ cs) → Left s text u cs
left_part {bs = bs} cs e h = record {
  all = λ v f. h.all v (adds_append e f);
  place = omega (arith, e.put.place, h.place, length-append bs cs);
  size = e.size ∙ h.size;
}
