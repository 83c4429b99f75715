-- A part replaced: the length stays, the part reads back, every part beside it is as it was, and parts replaced in parts.
-- By the laws of `take`, `drop` and `++` at a seam.
-- Assumes nothing.
use mathlib.Core.Path.{◌≡◌, refl, sym, ap, ◌∙◌, subst}
use mathlib.Core.List.{List, [], ◌∷◌, ◌++◌, append_assoc, append-nil}
use Prim.Native.Nat.{ℕ, zero, suc, ◌+◌, ◌-◌, ◌*◌, ◌<◌, ◌≤◌}
use native.Mathlib.Nat.{add-zero, zero-add, suc-add}
use native.Mathlib.Numerals.{add-one}
use native.Mathlib.Omega.{arith}
use lib.ListN.{length, get_or, set, take, drop, replicate, length-append, length-drop, length-replicate, take-append-drop, drop_of_length-le}
use lib.Seq.{length-take-le, take_all, take-nil, take_at, drop_at, set_at, drop-drop, take-take, take-suc, drop-cons, append_snoc, drop-append-add, take-append-add, take-append-le, drop-append-le, get_or-drop}
use borrow.Rule.Slice.PartMut.{put_same}
use Rattle.cells.specs.Put.{put}
use Rattle.cells.proofs.Split.{by_lt}
use Rattle.cells.proofs.Arith.{apart}

-- `&s[n..]` is the rest of s
pub tail_is : (s : List ℕ) (n : ℕ) → take (length s - n) (drop n s) ≡ drop n s
tail_is s n = take_all (length s - n) (drop n s) (let e : length (drop n s) ≡ length s - n = length-drop n s in omega arith)

-- a part is the rest of a front
pub part_of_front : (s : List ℕ) (b n : ℕ) → take n (drop b s) ≡ drop b (take (b + n) s)
part_of_front s zero n = ap (λ (k : ℕ). take k s) (sym (zero-add n))
part_of_front [] (suc b) n = take-nil n ∙ sym (ap (λ (z : List ℕ). drop (suc b) z) (take-nil (suc b + n)))
part_of_front (x ∷ s) (suc b) n = part_of_front s b n ∙ ap (λ (k : ℕ). drop (suc b) (take k (x ∷ s))) (sym (suc-add b n))

pub put_nil : (t : List ℕ) (a : ℕ) → put t a [] ≡ t
unfolding put
put_nil t a = take-append-drop a t

pub put_zero : (t xs : List ℕ) → put t 0 xs ≡ xs ++ drop (length xs) t
unfolding put
put_zero t xs = refl

-- a list put over the whole of another
pub put_whole : (t xs : List ℕ) → length t ≤ length xs → put t 0 xs ≡ xs
put_whole t xs h = put_zero t xs ∙ ap (λ (z : List ℕ). xs ++ z) (drop_of_length-le t h) ∙ append-nil xs

pub drop_at_put : (t : List ℕ) (a : ℕ) (xs : List ℕ) → a ≤ length t → drop a (put t a xs) ≡ xs ++ drop (length xs) (drop a t)
unfolding put
drop_at_put t a xs h = drop_at (take a t) (xs ++ drop (length xs) (drop a t)) a (length-take-le a t h)

pub take_at_put : (t : List ℕ) (a : ℕ) (xs : List ℕ) → a ≤ length t → take a (put t a xs) ≡ take a t
unfolding put
take_at_put t a xs h = take_at (take a t) (xs ++ drop (length xs) (drop a t)) a (length-take-le a t h)

pub length-put : (t : List ℕ) (a : ℕ) (xs : List ℕ) → a + length xs ≤ length t → length (put t a xs) ≡ length t
unfolding put
length-put t a xs h =
    let r = drop (length xs) (drop a t) in
    let a₁ : length (take a t ++ (xs ++ r)) ≡ length (take a t) + length (xs ++ r) = length-append (take a t) (xs ++ r) in
    let a₂ : length (xs ++ r) ≡ length xs + length r = length-append xs r in
    let a₃ : length r ≡ length (drop a t) - length xs = length-drop (length xs) (drop a t) in
    let a₄ : length (drop a t) ≡ length t - a = length-drop a t in
    let l : a ≤ length t = omega arith in
    let a₅ : length (take a t) ≡ a = length-take-le a t l in
    omega arith

-- ---- parts of it
pub part_same : (t : List ℕ) (a : ℕ) (xs : List ℕ) (n : ℕ) → a + n ≤ length t → length xs ≡ n → take n (drop a (put t a xs)) ≡ xs
part_same t a xs n h e =
    let l : a ≤ length t = omega arith in
    ap (λ (z : List ℕ). take n z) (drop_at_put t a xs l) ∙ take_at xs (drop (length xs) (drop a t)) n e

pub take_before : (t : List ℕ) (a : ℕ) (xs : List ℕ) (b : ℕ) → b ≤ a → a ≤ length t → take b (put t a xs) ≡ take b t
take_before t a xs b h l =
    sym (take-take b a (put t a xs) h) ∙ ap (λ (z : List ℕ). take b z) (take_at_put t a xs l) ∙ take-take b a t h

pub drop_after : (t : List ℕ) (a : ℕ) (xs : List ℕ) (b : ℕ) → a + length xs ≤ b → a ≤ length t → drop b (put t a xs) ≡ drop b t
drop_after t a xs b h l =
    let k : ℕ = b - (a + length xs) in
    let e : a + (length xs + k) ≡ b = omega arith in
    ap (λ (j : ℕ). drop j (put t a xs)) (sym e) ∙ sym (drop-drop (length xs + k) a (put t a xs))
    ∙ ap (λ (z : List ℕ). drop (length xs + k) z) (drop_at_put t a xs l)
    ∙ drop-append-add xs (drop (length xs) (drop a t)) k
    ∙ drop-drop k (length xs) (drop a t) ∙ drop-drop (length xs + k) a t ∙ ap (λ (j : ℕ). drop j t) e

-- the n elements from place b on, where these lie before the part or after it
pub part_before : (t : List ℕ) (a : ℕ) (xs : List ℕ) (b n : ℕ) → b + n ≤ a → a ≤ length t → take n (drop b (put t a xs)) ≡ take n (drop b t)
part_before t a xs b n h l =
    part_of_front (put t a xs) b n ∙ ap (λ (z : List ℕ). drop b z) (take_before t a xs (b + n) h l) ∙ sym (part_of_front t b n)

pub part_after : (t : List ℕ) (a : ℕ) (xs : List ℕ) (b n : ℕ) → a + length xs ≤ b → a ≤ length t → take n (drop b (put t a xs)) ≡ take n (drop b t)
part_after t a xs b n h l = ap (λ (z : List ℕ). take n z) (drop_after t a xs b h l)

-- an element after it
pub get_d_after : (t : List ℕ) (a : ℕ) (xs : List ℕ) (i : ℕ) → a + length xs ≤ i → a ≤ length t → get_or (put t a xs) i 0 ≡ get_or t i 0
get_d_after t a xs i h l =
    let z : i + 0 ≡ i = omega arith in
    ap (λ (k : ℕ). get_or (put t a xs) k 0) (sym z) ∙ sym (get_or-drop i (put t a xs) 0 0)
    ∙ ap (λ (r : List ℕ). get_or r 0 0) (drop_after t a xs i h l)
    ∙ get_or-drop i t 0 0 ∙ ap (λ (k : ℕ). get_or t k 0) z

-- ---- one more element at the part's end: what a writer's turn does
pub put_snoc : (t : List ℕ) (a : ℕ) (xs : List ℕ) (v : ℕ)
    → a + length xs < length t → set (put t a xs) (a + length xs) v ≡ put t a (xs ++ (v ∷ []))
unfolding put
put_snoc t a xs v h =
    let p : List ℕ = take a t in
    let d : List ℕ = drop a t in
    let n : ℕ = length xs in
    let l : a ≤ length t = omega arith in
    let lp : length p ≡ a = length-take-le a t l in
    let ld : length d ≡ length t - a = length-drop a t in
    let lx : length (p ++ xs) ≡ length p + n = length-append p xs in
    let e : length (p ++ xs) ≡ a + n = omega arith in
    let b : n < length d = omega arith in
    let s : length (xs ++ (v ∷ [])) ≡ suc n = length-append xs (v ∷ []) ∙ add-one n in
    ap (λ (z : List ℕ). set (p ++ (xs ++ z)) (a + n) v) (drop-cons d n 0 b)
    ∙ ap (λ (z : List ℕ). set z (a + n) v) (sym (append_assoc p xs (get_or d n 0 ∷ drop (suc n) d)))
    ∙ set_at (p ++ xs) (get_or d n 0) (drop (suc n) d) v (a + n) e
    ∙ append_assoc p xs (v ∷ drop (suc n) d)
    ∙ ap (λ (z : List ℕ). p ++ z) (sym (append_snoc xs v (drop (suc n) d)))
    ∙ ap (λ (k : ℕ). p ++ ((xs ++ (v ∷ [])) ++ drop k d)) (sym s)

-- the same at a place known by an equation
pub put_push : (t : List ℕ) (a : ℕ) (xs : List ℕ) (i v : ℕ) → i ≡ a + length xs → i < length t → set (put t a xs) i v ≡ put t a (xs ++ (v ∷ []))
put_push t a xs i v e h = ap (λ (k : ℕ). set (put t a xs) k v) e ∙ put_snoc t a xs v (subst (λ (k : ℕ). k < length t) e h)

-- a turn of a copy: the first i elements of s are there, and one more
pub copy_more : (t s : List ℕ) (i : ℕ) → i < length s → length s ≤ length t → set (put t 0 (take i s)) i (get_or s i 0) ≡ put t 0 (take (i + 1) s)
copy_more t s i h g =
    let l : i ≤ length s = omega arith in
    let e : length (take i s) ≡ i = length-take-le i s l in
    let q : i ≡ 0 + length (take i s) = omega arith in
    let r : i < length t = omega arith in
    put_push t 0 (take i s) i (get_or s i 0) q r
    ∙ ap (λ (z : List ℕ). put t 0 z) (sym (take-suc s i 0 h) ∙ ap (λ (k : ℕ). take k s) (sym (add-one i)))

-- ---- how a lent part `&mut t[a..e]` comes back: the part's last list ys in its place
pub put_back : (t : List ℕ) (a k : ℕ) (ys xs : List ℕ) → ys ≡ xs → length xs ≡ k → take a t ++ (ys ++ drop k (drop a t)) ≡ put t a xs
unfolding put
put_back t a k ys xs e l =
    ap (λ (z : List ℕ). take a t ++ (z ++ drop k (drop a t))) e
    ∙ ap (λ (j : ℕ). take a t ++ (xs ++ drop j (drop a t))) (sym l)

-- the part as it was
pub put_part : (t : List ℕ) (a n : ℕ) → a + n ≤ length t → put t a (take n (drop a t)) ≡ t
put_part t a n h =
    let d : length (drop a t) ≡ length t - a = length-drop a t in
    let l : n ≤ length (drop a t) = omega arith in
    sym (put_back t a n (take n (drop a t)) (take n (drop a t)) refl (length-take-le n (drop a t) l)) ∙ put_same a n t

-- ---- in a list of two pieces
pub put_left : (p q : List ℕ) (a : ℕ) (xs : List ℕ) → a + length xs ≤ length p → put (p ++ q) a xs ≡ put p a xs ++ q
unfolding put
put_left p q a xs h =
    let l : a ≤ length p = omega arith in
    let d : length (drop a p) ≡ length p - a = length-drop a p in
    let m : length xs ≤ length (drop a p) = omega arith in
    ap (λ (z : List ℕ). z ++ (xs ++ drop (length xs) (drop a (p ++ q)))) (take-append-le a p q l)
    ∙ ap (λ (z : List ℕ). take a p ++ (xs ++ drop (length xs) z)) (drop-append-le a p q l)
    ∙ ap (λ (z : List ℕ). take a p ++ (xs ++ z)) (drop-append-le (length xs) (drop a p) q m)
    ∙ ap (λ (z : List ℕ). take a p ++ z) (sym (append_assoc xs (drop (length xs) (drop a p)) q))
    ∙ sym (append_assoc (take a p) (xs ++ drop (length xs) (drop a p)) q)

pub put_right : (p q : List ℕ) (b : ℕ) (xs : List ℕ) → put (p ++ q) (length p + b) xs ≡ p ++ put q b xs
unfolding put
put_right p q b xs =
    ap (λ (z : List ℕ). z ++ (xs ++ drop (length xs) (drop (length p + b) (p ++ q)))) (take-append-add p q b)
    ∙ ap (λ (z : List ℕ). (p ++ take b q) ++ (xs ++ drop (length xs) z)) (drop-append-add p q b)
    ∙ append_assoc p (take b q) (xs ++ drop (length xs) (drop b q))

-- where the second piece's place is known by an equation
pub put_second : (p q : List ℕ) (a b : ℕ) (xs : List ℕ) → a ≡ length p + b → put (p ++ q) a xs ≡ p ++ put q b xs
put_second p q a b xs e = ap (λ (k : ℕ). put (p ++ q) k xs) e ∙ put_right p q b xs

-- ---- a part replaced in a part is a part replaced in the whole
pub put_in : (t : List ℕ) (a k b : ℕ) (xs : List ℕ)
    → b + length xs ≤ k → a + k ≤ length t → take a t ++ (put (take k (drop a t)) b xs ++ drop k (drop a t)) ≡ put t (a + b) xs
put_in t a k b xs h g =
    let p : List ℕ = take a t in
    let d : List ℕ = drop a t in
    let l : a ≤ length t = omega arith in
    let lp : length p ≡ a = length-take-le a t l in
    let ld : length d ≡ length t - a = length-drop a t in
    let kd : k ≤ length d = omega arith in
    let lm : length (take k d) ≡ k = length-take-le k d kd in
    let m : b + length xs ≤ length (take k d) = omega arith in
    let e : a + b ≡ length p + b = omega arith in
    ap (λ (z : List ℕ). p ++ z) (sym (put_left (take k d) (drop k d) b xs m) ∙ ap (λ (z : List ℕ). put z b xs) (take-append-drop k d))
    ∙ sym (put_second p d (a + b) b xs e)
    ∙ ap (λ (z : List ℕ). put z (a + b) xs) (take-append-drop a t)

-- the same as a callee's `&mut t[a..e]` comes back: ys is the part's last list, which the callee says is its part with xs put at b
pub put_lift : (t : List ℕ) (a k b : ℕ) (ys xs : List ℕ)
    → ys ≡ put (take k (drop a t)) b xs → b + length xs ≤ k → a + k ≤ length t → take a t ++ (ys ++ drop k (drop a t)) ≡ put t (a + b) xs
put_lift t a k b ys xs e h g = ap (λ (z : List ℕ). take a t ++ (z ++ drop k (drop a t))) e ∙ put_in t a k b xs h g

-- and where the callee puts at the part's front
pub put_front : (t : List ℕ) (a k : ℕ) (ys xs : List ℕ)
    → ys ≡ put (take k (drop a t)) 0 xs → length xs ≤ k → a + k ≤ length t → take a t ++ (ys ++ drop k (drop a t)) ≡ put t a xs
put_front t a k ys xs e h g =
    let l : 0 + length xs ≤ k = omega arith in
    put_lift t a k 0 ys xs e l g ∙ ap (λ (j : ℕ). put t j xs) (add-zero a)

-- ---- two parts replaced
-- apart: in either order
pub put_comm : (t : List ℕ) (a : ℕ) (xs : List ℕ) (b : ℕ) (ys : List ℕ)
    → a + length xs ≤ b → b ≤ length t → put (put t a xs) b ys ≡ put (put t b ys) a xs
put_comm t a xs b ys h g =
    let p : List ℕ = take b t in
    let q : List ℕ = drop b t in
    let lp : length p ≡ b = length-take-le b t g in
    let m : a + length xs ≤ length p = omega arith in
    let w : p ++ q ≡ t = take-append-drop b t in
    let lx : length (put p a xs) ≡ length p = length-put p a xs m in
    let e₁ : b ≡ length (put p a xs) + 0 = omega arith in
    let e₂ : b ≡ length p + 0 = omega arith in
    ap (λ (z : List ℕ). put (put z a xs) b ys) (sym w)
    ∙ ap (λ (z : List ℕ). put z b ys) (put_left p q a xs m)
    ∙ put_second (put p a xs) q b 0 ys e₁
    ∙ sym (put_left p (put q 0 ys) a xs m)
    ∙ ap (λ (z : List ℕ). put z a xs) (sym (put_second p q b 0 ys e₂))
    ∙ ap (λ (z : List ℕ). put (put z b ys) a xs) w

-- side by side: one part
pub put_then : (t : List ℕ) (a : ℕ) (xs ys : List ℕ) → a ≤ length t → put (put t a xs) (a + length xs) ys ≡ put t a (xs ++ ys)
unfolding put
put_then t a xs ys l =
    let p : List ℕ = take a t in
    let d : List ℕ = drop a t in
    let r : List ℕ = drop (length xs) d in
    let lp : length p ≡ a = length-take-le a t l in
    let lx : length (p ++ xs) ≡ length p + length xs = length-append p xs in
    let e : a + length xs ≡ length (p ++ xs) + 0 = omega arith in
    ap (λ (z : List ℕ). put z (a + length xs) ys) (sym (append_assoc p xs r))
    ∙ put_second (p ++ xs) r (a + length xs) 0 ys e
    ∙ append_assoc p xs (ys ++ drop (length ys) r)
    ∙ ap (λ (z : List ℕ). p ++ z) (sym (append_assoc xs ys (drop (length ys) r)))
    ∙ ap (λ (z : List ℕ). p ++ ((xs ++ ys) ++ z))
    (drop-drop (length ys) (length xs) d ∙ ap (λ (k : ℕ). drop k d) (sym (length-append xs ys)))

-- the same where the second place is known by an equation
pub put_next : (t : List ℕ) (a : ℕ) (xs : List ℕ) (b : ℕ) (ys : List ℕ) → b ≡ a + length xs → a ≤ length t → put (put t a xs) b ys ≡ put t a (xs ++ ys)
put_next t a xs b ys e l = ap (λ (k : ℕ). put (put t a xs) k ys) e ∙ put_then t a xs ys l

-- ---- one element
pub set_is_put : (t : List ℕ) (a v : ℕ) → a < length t → set t a v ≡ put t a (v ∷ [])
set_is_put t a v h =
    let e : a ≡ a + 0 = omega arith in
    ap (λ (z : List ℕ). set z a v) (sym (put_nil t a)) ∙ put_push t a [] a v e h

-- ---- parts of parts
pub part_part : (t : List ℕ) (a n b m : ℕ) → b + m ≤ n → take m (drop b (take n (drop a t))) ≡ take m (drop (a + b) t)
part_part t a n b m h =
    part_of_front (take n (drop a t)) b m ∙ ap (λ (z : List ℕ). drop b z) (take-take (b + m) n (drop a t) h)
    ∙ sym (part_of_front (drop a t) b m) ∙ ap (λ (z : List ℕ). take m z) (drop-drop b a t)

-- a part of what was put
pub part_inside : (t : List ℕ) (a : ℕ) (xs : List ℕ) (b m : ℕ) → b + m ≤ length xs → a + length xs ≤ length t → take m (drop (a + b) (put t a xs)) ≡ take m (drop b xs)
part_inside t a xs b m h g =
    sym (part_part (put t a xs) a (length xs) b m h) ∙ ap (λ (z : List ℕ). take m (drop b z)) (part_same t a xs (length xs) g refl)

-- ---- records of one length, side by side: record i is replaced, and record j is read
pub record_same : (t : List ℕ) (len i : ℕ) (xs : List ℕ) → length xs ≡ len → i * len + len ≤ length t → take len (drop (i * len) (put t (i * len) xs)) ≡ xs
record_same t len i xs e h = part_same t (i * len) xs len h e

pub record_other : (t : List ℕ) (len i j : ℕ) (xs : List ℕ)
    → length xs ≡ len → i * len + len ≤ length t → (i ≡ j → ⊥) → take len (drop (j * len) (put t (i * len) xs)) ≡ take len (drop (j * len) t)
record_other t len i j xs e h ne =
    by_lt i j
    (λ l.
    let w : i * len + len ≤ j * len = apart len l in
    part_after t (i * len) xs (j * len) len (omega arith) (omega arith))
    (λ l.
    let m : j < i = omega arith in
    let w : j * len + len ≤ i * len = apart len m in
    part_before t (i * len) xs (j * len) len w (omega arith))

-- ---- more forms in which a lent part comes back: `k` (for `&mut t[a..e]` it is `e - a`) is the one argument that a citation writes out
-- a part that was filled
pub put_fill : (t : List ℕ) (a k : ℕ) (ys : List ℕ) (v : ℕ)
    → ys ≡ replicate (length (take k (drop a t))) v → a + k ≤ length t → take a t ++ (ys ++ drop k (drop a t)) ≡ put t a (replicate k v)
put_fill t a k ys v e g =
    let ld : length (drop a t) ≡ length t - a = length-drop a t in
    let kd : k ≤ length (drop a t) = omega arith in
    put_back t a k ys (replicate k v) (e ∙ ap (λ (n : ℕ). replicate n v) (length-take-le k (drop a t) kd)) (length-replicate k v)

-- ---- for a loop or a run of calls whose list is known by an equation
pub copy_turn : (t s : List ℕ) (i : ℕ) {z : List ℕ} → z ≡ put t 0 (take i s) → i < length s → length s ≤ length t → set z i (get_or s i 0) ≡ put t 0 (take (i + 1) s)
copy_turn t s i e h g = ap (λ (y : List ℕ). set y i (get_or s i 0)) e ∙ copy_more t s i h g
