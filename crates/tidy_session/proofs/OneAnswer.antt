-- No second answer fits the promise of `tidy`: the length and every byte of the output are told by it.
-- Assumes nothing.
use mathlib.Core.Path.{◌≡◌, sym, ap, ◌∙◌}
use mathlib.Core.List.{List}
use Prim.Native.Nat.{ℕ}
use Rattle.text_room.specs.Wrote.{Wrote}
use Rattle.tidy_session.specs.Session.{TidyPromise}

pub one_tidy : (input out : List ℕ) {m n : ℕ} {o p : List ℕ} → TidyPromise input out m o → TidyPromise input out n p → (m ≡ n) × (o ≡ p)
one_tidy input out e f = (ap (λ (x : Wrote). x.next) (e ∙ sym f), ap (λ (x : Wrote). x.out) (e ∙ sym f))
