-- Used slots counted: a kind with an unused slot has room, and distinct kept memories are at most the used slots.
-- By the laws of counting.
-- Assumes nothing.
use mathlib.Core.Path.{◌≡◌, refl, sym, ap, ◌∙◌, subst}
use mathlib.Core.Bool.{Bool, true, false, ◌||◌}
use mathlib.Core.List.{List, [], ◌∷◌}
use Prim.Native.Nat.{ℕ, zero, suc, ◌+◌, ◌<◌, ◌≤◌}
use native.Mathlib.Omega.{arith}
use lib.ListN.{length}
use Rattle.cells.specs.Search.{at, nowhere, count_from}
use Rattle.cells.proofs.Search.{count_more, count_le}
use Rattle.cells.proofs.Split.{by_bool, by_or, cond-true, cond-false, clash, or_true_left, or_false}
use Rattle.store_desk.specs.declared.Desk.{Desk}
use Rattle.store_desk.specs.declared.Kind.{Kind}
use Rattle.store_desk.specs.Name.{Name, first_slot, slot_count, slots_end, eq_name}
use Rattle.store_desk.proofs.Name.{eq_name-true}
use Rattle.store.specs.Slots.{head_at, is_used, holds_at, find}
use Rattle.store.specs.Change.{seat}
use Rattle.store.specs.Fits.{used_count}
use Rattle.store.specs.Good.{GoodForm}
use Rattle.store.proofs.Find.{holds_own, holds_true}
use Rattle.store.proofs.Form.{placed_found}
use Rattle.store.proofs.Start.{full, found_used}

-- ---- counts
count_all : (p : ℕ → Bool) (n i : ℕ) → ((k : ℕ) → i ≤ k → k < i + n → p k ≡ true) → count_from p n i ≡ n
unfolding count_from
count_all p zero i f = refl
count_all p (suc n) i f =
    cond-true (p i) (suc (count_from p n (suc i))) (count_from p n (suc i)) (f i (omega arith) (omega arith))
    ∙ ap suc (count_all p n (suc i) (λ k h l. f k (omega arith) (omega arith)))

count_mono : (p q : ℕ → Bool) (n i : ℕ) → ((k : ℕ) → i ≤ k → k < i + n → p k ≡ true → q k ≡ true) → count_from p n i ≤ count_from q n i
unfolding count_from
count_mono p q zero i f = omega arith
count_mono p q (suc n) i f =
    let ih : count_from p n (suc i) ≤ count_from q n (suc i) = count_mono p q n (suc i) (λ k h l. f k (omega arith) (omega arith)) in
    by_bool (p i)
    (λ t.
    let a : count_from p (suc n) i ≡ suc (count_from p n (suc i)) = cond-true (p i) (suc (count_from p n (suc i))) (count_from p n (suc i)) t in
    let b : count_from q (suc n) i ≡ suc (count_from q n (suc i)) =
    cond-true (q i) (suc (count_from q n (suc i))) (count_from q n (suc i)) (f i (omega arith) (omega arith) t)
    in
    omega arith)
    (λ t.
    let a : count_from p (suc n) i ≡ count_from p n (suc i) = cond-false (p i) (suc (count_from p n (suc i))) (count_from p n (suc i)) t in
    by_bool (q i)
    (λ u. let b : count_from q (suc n) i ≡ suc (count_from q n (suc i)) = cond-true (q i) (suc (count_from q n (suc i))) (count_from q n (suc i)) u in omega arith)
    (λ u. let b : count_from q (suc n) i ≡ count_from q n (suc i) = cond-false (q i) (suc (count_from q n (suc i))) (count_from q n (suc i)) u in omega arith))

pub used_le : (d : Desk) (s : List ℕ) (k : Kind) → used_count d s k ≤ slot_count d k
unfolding used_count
used_le d s k = count_le (λ i. is_used (head_at d s i)) (slot_count d k) (first_slot d k)

-- ---- room
pub room_left : (d : Desk) (s : List ℕ) (n : Name) → used_count d s n.kind < slot_count d n.kind → seat d s n ≡ nowhere → ⊥
unfolding used_count
room_left d s n h e =
    let c : count_from (λ i. is_used (head_at d s i)) (slot_count d n.kind) (first_slot d n.kind) ≡ slot_count d n.kind =
    count_all (λ i. is_used (head_at d s i)) (slot_count d n.kind) (first_slot d n.kind) (full d s n e).1
    in
    omega arith

-- ---- distinct kept memories are at most the used slots
abbrev pub Apart : Name → List Name → Type 0
Apart n [] = Unit
Apart n (m ∷ ms) = (eq_name n m ≡ false) × Apart n ms

abbrev pub Distinct : List Name → Type 0
Distinct [] = Unit
Distinct (n ∷ ns) = Apart n ns × Distinct ns

abbrev pub AllKept : Desk → List ℕ → Kind → List Name → Type 0
AllKept d s k [] = Unit
AllKept d s k (n ∷ ns) = (n.kind ≡ k) × ((i : ℕ) × (find d s n ≡ at i)) × AllKept d s k ns

-- slot i holds one of them
held_by : Desk → List ℕ → List Name → ℕ → Bool
held_by d s [] i = false
held_by d s (n ∷ ns) i = holds_at d s n.key i || held_by d s ns i

held_used : (d : Desk) (s : List ℕ) (ns : List Name) (i : ℕ) → held_by d s ns i ≡ true → is_used (head_at d s i) ≡ true
unfolding held_by
held_used d s [] i e = clash e refl
held_used d s (n ∷ ns) i e =
    by_or (holds_at d s n.key i) (held_by d s ns i) e (λ t. (holds_own d s n.key i t).0) (λ t. held_used d s ns i t)

-- a slot that holds n holds none that is apart from it
held_apart : (d : Desk) (s : List ℕ) (k : Kind) (n : Name) → n.kind ≡ k → (i : ℕ) → holds_at d s n.key i ≡ true
    → (ns : List Name) → Apart n ns → AllKept d s k ns → held_by d s ns i ≡ false
unfolding held_by
held_apart d s k n q i h [] a f = refl
held_apart d s k n q i h (m ∷ ms) a f =
    or_false (holds_at d s m.key i) (held_by d s ms i)
    (by_bool (holds_at d s m.key i)
    (λ t.
    let y : n.key ≡ m.key = sym (holds_own d s n.key i h).1 ∙ (holds_own d s m.key i t).1 in
    let z : n.kind ≡ m.kind = q ∙ sym f.0 in
    let e : n ≡ m = λ j. record { kind = z j; key = y j } in
    clash (eq_name-true n m e) a.0)
    (λ t. t))
    (held_apart d s k n q i h ms a.1 f.2)

held_count : (d : Desk) (s : List ℕ) → GoodForm d s → (k : Kind) (ns : List Name) → Distinct ns → AllKept d s k ns
    → length ns ≤ count_from (held_by d s ns) (slot_count d k) (first_slot d k)
unfolding held_by find
held_count d s g k [] x f = omega arith
held_count d s g k (n ∷ ns) x f =
    let i = f.1.0 in
    let e : find d s n ≡ at i = f.1.1 in
    let w = placed_found d s g n i e in
    let own : holds_at d s n.key i ≡ true =
    holds_true d s n.key i (found_used d s n i e).1 (ap (λ (z : Name). z.key) (found_used d s n i e).2)
    in
    let c : count_from (held_by d s (n ∷ ns)) (slot_count d k) (first_slot d k) ≡ suc (count_from (held_by d s ns) (slot_count d k) (first_slot d k)) =
    count_more (held_by d s ns) (held_by d s (n ∷ ns)) (slot_count d k) (first_slot d k) i
    (subst (λ (z : Kind). first_slot d z ≤ i) f.0 w.from)
    (subst (λ (z : Kind). i < slots_end d z) f.0 w.below)
    (held_apart d s k n f.0 i own ns x.0 f.2)
    (or_true_left (holds_at d s n.key i) (held_by d s ns i) own)
    (λ j h l ne.
    let off : holds_at d s n.key j ≡ false =
    w.only j (subst (λ (z : Kind). first_slot d z ≤ j) (sym f.0) h) (subst (λ (z : Kind). j < slots_end d z) (sym f.0) l) (λ q. ne (sym q))
    in
    sym (ap (λ (b : Bool). b || held_by d s ns j) off))
    in
    let ih = held_count d s g k ns x.1 f.2 in
    omega arith

pub kept_used : (d : Desk) (s : List ℕ) → GoodForm d s → (k : Kind) (ns : List Name) → Distinct ns → AllKept d s k ns → length ns ≤ used_count d s k
unfolding used_count
kept_used d s g k ns x f =
    let a = held_count d s g k ns x f in
    let b : count_from (held_by d s ns) (slot_count d k) (first_slot d k) ≤ count_from (λ i. is_used (head_at d s i)) (slot_count d k) (first_slot d k) =
    count_mono (held_by d s ns) (λ i. is_used (head_at d s i)) (slot_count d k) (first_slot d k) (λ i h l t. held_used d s ns i t)
    in
    omega arith
