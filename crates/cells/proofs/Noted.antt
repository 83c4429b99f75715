-- Numbers that go into a lent list one after the other.
-- Assumes nothing.
use mathlib.Core.Path.{◌≡◌, refl, sym, ap, ◌∙◌}
use mathlib.Core.List.{List, [], ◌∷◌}
use Prim.Native.Nat.{ℕ, suc, ◌+◌, ◌≤◌, ◌<◌}
use native.Mathlib.Omega.{arith}
use lib.ListN.{length, get_or, drop, set, length-set, drop_of_length-le}
use lib.Seq.{set_out, drop-cons}
use Rattle.cells.specs.Note.{noted_from}

-- past its end a list keeps what it has
pub noted_none : (l : List ℕ) (i v : ℕ) → length l ≤ i → l ≡ set l i v
noted_none l i v h = sym (set_out l i v h)

pub noted_nil : (i : ℕ) (l : List ℕ) → noted_from i l [] ≡ l
unfolding noted_from
noted_nil i l = refl

pub noted_cons : (i : ℕ) (l : List ℕ) (v : ℕ) (vs : List ℕ) → noted_from i l (v ∷ vs) ≡ noted_from (i + 1) (set l i v) vs
unfolding noted_from
noted_cons i l v vs = ap (λ (j : ℕ). noted_from j (set l i v) vs) (let e : suc i ≡ i + 1 = omega arith in e)

-- what is left to note goes in from place i on
pub record Noting (l vs t : List ℕ) (i : ℕ) : Type 0 where
  pub left : List ℕ
  pub rest : drop i vs ≡ left
  pub same : noted_from 0 l vs ≡ noted_from i t left
  pub size : length t ≡ length l

pub noting_start : (l vs : List ℕ) → Noting l vs l 0
noting_start l vs = record { left = vs; rest = refl; same = refl; size = refl }

module _ {l vs t : List ℕ} {i : ℕ} (p : Noting l vs t i) where
  pub noting_turn : {v : ℕ} {u : List ℕ} → i < length vs → v ≡ get_or vs i 0 → u ≡ set t i v → Noting l vs u (i + 1)
  noting_turn {v} {u} h e f =
      let n : suc i ≡ i + 1 = omega arith in
      let q : p.left ≡ v ∷ drop (i + 1) vs =
      sym p.rest ∙ drop-cons vs i 0 h ∙ ap (λ (x : ℕ). x ∷ drop (suc i) vs) (sym e) ∙ ap (λ (j : ℕ). v ∷ drop j vs) n
      in
      record {
        left = drop (i + 1) vs;
        rest = refl;
        same =
            p.same ∙ ap (noted_from i t) q ∙ noted_cons i t v (drop (i + 1) vs)
            ∙ ap (λ (x : List ℕ). noted_from (i + 1) x (drop (i + 1) vs)) (sym f);
        size = ap length f ∙ length-set t i v ∙ p.size;
      }

  pub noting_end : length vs ≤ i → t ≡ noted_from 0 l vs
  noting_end h =
      sym (p.same ∙ ap (noted_from i t) (sym p.rest ∙ drop_of_length-le vs h) ∙ noted_nil i t)
