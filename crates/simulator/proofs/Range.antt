-- The session whose part a line is about is one of the eight. Assumes nothing.
use mathlib.Core.Path.{◌≡◌, refl}
use mathlib.Core.Bool.{true}
use mathlib.Core.Option.{Option}
use Rattle.calculus.specs.Number.{is_session}
use Rattle.calculus.specs.declared.request.Request as request
use Rattle.calculus.specs.declared.request.Request.TheVariants.{Node, Route, Open, Step, Send, Close, Show, Net, Drop}
use Rattle.forms.specs.Text.{Form}
use Rattle.forms.specs.Request.{Asked, asked}
use Rattle.model.specs.Turn.{session_in, session_of}
use Rattle.model.proofs.Asked as asks
use Rattle.model.proofs.Asked.{Meaning, refuses, gives_node, gives_route, of_session, shows, gives_back, meaning}

own_session : (q : request.Request) → is_session (asks.session_in q) ≡ true → is_session (session_in q) ≡ true
own_session (Node a k has needs) e = refl
own_session (Route a b n) e = refl
own_session (Open u c d) e = e
own_session (Step u k) e = e
own_session (Send u w tag) e = e
own_session (Close u) e = e
own_session Show e = refl
own_session Net e = refl
own_session (Drop u k) e = e

meant_session : {o : Option Form} {r : Asked} → Meaning o r → is_session (session_of r) ≡ true
meant_session (refuses r h) = refl
meant_session (gives_node a k has needs i j h) = refl
meant_session (gives_route a b n h) = refl
meant_session (of_session q h k) = own_session q h
meant_session (shows h) = refl
meant_session (gives_back h) = refl

pub asked_session : (o : Option Form) → is_session (session_of (asked o)) ≡ true
asked_session o = meant_session (meaning o)
