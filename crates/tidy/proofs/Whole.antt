-- What is printed of the bytes that were taken is what is printed of the whole input: they are all of it, or both are too long. By the
-- definition of the text and what a reader has left.
-- Assumes nothing.
use mathlib.Core.Path.{◌≡◌, sym, ap, ◌∙◌, subst}
use mathlib.Core.Logic.{⊎_elim}
use mathlib.Core.List.{List, ◌++◌, append-nil}
use Prim.Native.Nat.{ℕ, ◌+◌, ◌≤◌, ◌<◌}
use native.Mathlib.Omega.{arith}
use lib.ListN.{length, take, drop, length-append}
use lib.Seq.{length-take-le, take_at}
use borrow.Author.Tests.{lt-ltb}
use Rattle.std.specs.Prelude.{None, Some, IfSome, OnOk, Result, Ok, Err}
use Rattle.std.proofs.lemmas.Bool.{cases_lt}
use Rattle.std.specs.declared.option.Option.{Option}
use Rattle.std.specs.Io.KnownBytes.{Appends, Consumes, IsAtEnd}
use Rattle.cells.specs.Text.{bytes}
use Rattle.cells.proofs.Put.{put_zero}
use Rattle.cells.proofs.Split.{cond-true}
use Rattle.text_room.specs.Wrote.{wrote, wrote_at}
use Rattle.text_room.proofs.Writes.{next_is, out_is}
use Rattle.tidy_session.specs.Session.{most_input, tidy_text}

-- ---- the text
too_long : (xs : List ℕ) → most_input < length xs → tidy_text xs ≡ bytes "input too long\n"
unfolding tidy_text
too_long xs h = cond-true _ _ _ (lt-ltb _ _ h)

-- what was written at the start of the output
pub text_is : (o xs : List ℕ) {n : ℕ} {z : List ℕ} → wrote n z ≡ wrote_at o 0 xs → take n z ≡ xs
text_is o xs {n} {z} e =
    let f : n ≡ 0 + length xs = next_is o 0 xs e in
    ap (take n) (out_is o 0 xs e ∙ put_zero o xs) ∙ take_at xs (drop (length xs) o) n (omega arith)

-- ---- what was taken
module _ (buf : List ℕ) (n : ℕ) (room : length buf ≡ 65536) (within : n ≤ length buf) where
  taken_length : length (take n buf) ≡ n
  taken_length = length-take-le n buf within

  cut : (rest : List ℕ) → length buf ≤ n → tidy_text (take n buf) ≡ tidy_text (take n buf ++ rest)
  cut rest full =
      let l : length (take n buf ++ rest) ≡ length (take n buf) + length rest = length-append (take n buf) rest in
      too_long (take n buf) (omega (arith, taken_length)) ∙ sym (too_long (take n buf ++ rest) (omega (arith, taken_length)))

  pub taken_text : (left new : Option (List ℕ)) → Consumes left new (take n buf) → (n < length buf → IsAtEnd new)
      → IfSome left (λ show. tidy_text (take n buf) ≡ tidy_text show)
  taken_text None new c e = tt
  taken_text (Some xs) None c e = absurd c
  taken_text (Some xs) (Some ys) c e =
      ⊎_elim
      (λ short. ap tidy_text (sym (append-nil (take n buf)) ∙ ap (λ l. take n buf ++ l) (sym (e short)) ∙ sym c))
      (λ full. cut ys full ∙ ap tidy_text (sym c))
      (cases_lt n (length buf))

-- ---- what was written of it
module _ (a b : Option (List ℕ)) (s : List ℕ) {t : List ℕ} (e : t ≡ tidy_text s) where
  told : (left : Option (List ℕ)) → Appends a b t → IfSome left (λ show. tidy_text s ≡ tidy_text show)
      → IfSome left (λ show. Appends a b (tidy_text show))
  told None h f = tt
  told (Some xs) h f = subst (Appends a b) (e ∙ f) h

  pub session_told : {E : Type 0} (r : Result (Unit {0}) E) (left : Option (List ℕ)) → OnOk r (Appends a b t)
      → IfSome left (λ show. tidy_text s ≡ tidy_text show) → OnOk r (IfSome left (λ show. Appends a b (tidy_text show)))
  session_told (Ok u) left h f = told left h f
  session_told (Err x) left h f = tt
