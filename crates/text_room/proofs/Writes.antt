-- Calls that write, one after the other: what they leave is one text written at the first place. By the laws of a replaced part.
-- Assumes nothing.
use mathlib.Core.Path.{◌≡◌, refl, sym, ap, ◌∙◌}
use mathlib.Core.List.{List, [], ◌∷◌, ◌++◌}
use Prim.Native.Nat.{ℕ, ◌+◌, ◌<◌, ◌≤◌}
use native.Mathlib.Nat.{add_assoc}
use native.Mathlib.Omega.{arith}
use lib.ListN.{length, set, length-append}
use Rattle.cells.specs.Put.{put}
use Rattle.cells.proofs.Put.{put_nil, put_next, set_is_put}
use Rattle.text_room.specs.Wrote.{Wrote, wrote, wrote_at}

module _ (t : List ℕ) (a : ℕ) (xs : List ℕ) {r : ℕ} {o : List ℕ} where
  pub next_is : wrote r o ≡ wrote_at t a xs → r ≡ a + length xs
  unfolding wrote_at
  next_is e = ap (λ (w : Wrote). w.next) e

  pub out_is : wrote r o ≡ wrote_at t a xs → o ≡ put t a xs
  unfolding wrote_at
  out_is e = ap (λ (w : Wrote). w.out) e

  pub wrote_is : r ≡ a + length xs → o ≡ put t a xs → wrote r o ≡ wrote_at t a xs
  unfolding wrote_at
  wrote_is e f = ap (λ (k : ℕ). wrote k o) e ∙ ap (λ (l : List ℕ). wrote (a + length xs) l) f

pub wrote_count : (t : List ℕ) (a : ℕ) (xs : List ℕ) (k : ℕ) {o : List ℕ} → length xs ≡ k → o ≡ put t a xs → wrote (a + k) o ≡ wrote_at t a xs
wrote_count t a xs k e f = wrote_is t a xs (ap (λ (n : ℕ). a + n) (sym e)) f

-- nothing
pub wrote_none : (t : List ℕ) (a : ℕ) → wrote a t ≡ wrote_at t a []
wrote_none t a = wrote_is t a [] (let e : a ≡ a + length {A = ℕ} [] = omega arith in e) (sym (put_nil t a))

-- a text behind a text
pub wrote_then : (t : List ℕ) (a : ℕ) (xs ys : List ℕ) {r s : ℕ} {o p : List ℕ}
    → a ≤ length t → wrote r o ≡ wrote_at t a xs → wrote s p ≡ wrote_at o r ys → wrote s p ≡ wrote_at t a (xs ++ ys)
wrote_then t a xs ys {r} {s} {o} {p} h e f =
    wrote_is t a (xs ++ ys)
    (next_is o r ys f ∙ ap (λ (k : ℕ). k + length ys) (next_is t a xs e) ∙ add_assoc a (length xs) (length ys)
    ∙ ap (λ (k : ℕ). a + k) (sym (length-append xs ys)))
    (out_is o r ys f ∙ ap (λ (l : List ℕ). put l r ys) (out_is t a xs e) ∙ put_next t a xs r ys (next_is t a xs e) h)

-- a text behind a character
pub wrote_lead : (t : List ℕ) (a v : ℕ) (ys : List ℕ) {s : ℕ} {p : List ℕ}
    → a < length t → wrote s p ≡ wrote_at (set t a v) (a + 1) ys → wrote s p ≡ wrote_at t a (v ∷ ys)
wrote_lead t a v ys h f =
    let g : a ≤ length t = omega arith in wrote_then t a (v ∷ []) ys g (wrote_is t a (v ∷ []) refl (set_is_put t a v h)) f

-- the same text under another name
pub wrote_as : (t : List ℕ) (a : ℕ) {xs ys : List ℕ} {r : ℕ} {o : List ℕ} → xs ≡ ys → wrote r o ≡ wrote_at t a xs → wrote r o ≡ wrote_at t a ys
wrote_as t a e f = f ∙ ap (wrote_at t a) e
