-- Packing and unpacking undo each other, and a row of fields may be cut in two: by induction on the widths, with the laws of powers of two.
-- Assumes nothing.
use mathlib.Core.Path.{◌≡◌, refl, sym, ap, ◌∙◌, subst}
use mathlib.Core.List.{List, [], ◌∷◌, ◌++◌}
use Prim.Native.Nat.{ℕ, zero, suc, ◌+◌, ◌*◌, ◌/◌, ◌%◌, ◌^◌, ◌<◌, ◌≤◌}
use native.Mathlib.Nat.{add-zero, add-mul, mul_assoc, mod-lt, mod-eq_of_lt, div-div-eq-div-mul, mul-add-div_right, mul-add-mod_self_right, mod-one, zero-add, add_assoc, zero-mul}
use native.Mathlib.Omega.{arith}
use lib.Arith.{digits_lt}
use lib.Pow.{pow_pos, pow-add, high, split, shr_lt, mod-pow-add}
use lib.ListN.{length, get_or, take, drop, replicate}
use lib.Seq.{get_or-drop, drop-drop}
use Rattle.store_head.specs.Pack.{total, packed, unpacked, FitsIn, Bytes}

-- ---- a value that fits is below its power
pub packed_lt : (ws vs : List ℕ) → FitsIn ws vs → packed ws vs < 2 ^ total ws
unfolding packed total
packed_lt [] [] f = omega arith
packed_lt [] (v ∷ vs) f = absurd f
packed_lt (w ∷ ws) [] f = absurd f
packed_lt (w ∷ ws) (v ∷ vs) f =
    subst (λ (z : ℕ). v * 2 ^ total ws + packed ws vs < z) (sym (pow-add 2 w (total ws)))
    (digits_lt f.0 (packed_lt ws vs f.1))

pub unpacked_fits : (ws : List ℕ) (n : ℕ) → FitsIn ws (unpacked ws n)
unfolding unpacked
unpacked_fits [] n = tt
unpacked_fits (w ∷ ws) n = (mod-lt (n / 2 ^ total ws) (pow_pos w), unpacked_fits ws n)

-- ---- what stands above the fields does not matter to them
field_low : (q r w t : ℕ) → (q * 2 ^ (w + t) + r) / 2 ^ t % 2 ^ w ≡ r / 2 ^ t % 2 ^ w
field_low q r w t =
    let e : q * 2 ^ (w + t) ≡ q * 2 ^ w * 2 ^ t = ap (λ (z : ℕ). q * z) (pow-add 2 w t) ∙ sym (mul_assoc q (2 ^ w) (2 ^ t)) in
    ap (λ (z : ℕ). (z + r) / 2 ^ t % 2 ^ w) e
    ∙ ap (λ (z : ℕ). z % 2 ^ w) (mul-add-div_right (pow_pos t) (q * 2 ^ w) r)
    ∙ mul-add-mod_self_right q (2 ^ w) (r / 2 ^ t)

pub unpacked_low : (ws : List ℕ) (q r : ℕ) → unpacked ws (q * 2 ^ total ws + r) ≡ unpacked ws r
unfolding unpacked total
unpacked_low [] q r = refl
unpacked_low (w ∷ ws) q r =
    let e : q * 2 ^ (w + total ws) ≡ q * 2 ^ w * 2 ^ total ws = ap (λ (z : ℕ). q * z) (pow-add 2 w (total ws)) ∙ sym (mul_assoc q (2 ^ w) (2 ^ total ws)) in
    ap (λ (z : ℕ). z ∷ unpacked ws (q * 2 ^ (w + total ws) + r)) (field_low q r w (total ws))
    ∙ ap (λ (z : ℕ). r / 2 ^ total ws % 2 ^ w ∷ unpacked ws (z + r)) e
    ∙ ap (λ (z : List ℕ). r / 2 ^ total ws % 2 ^ w ∷ z) (unpacked_low ws (q * 2 ^ w) r)

-- ---- there and back
pub unpack_pack : (ws vs : List ℕ) → FitsIn ws vs → unpacked ws (packed ws vs) ≡ vs
unfolding packed unpacked
unpack_pack [] [] f = refl
unpack_pack [] (v ∷ vs) f = absurd f
unpack_pack (w ∷ ws) [] f = absurd f
unpack_pack (w ∷ ws) (v ∷ vs) f =
    let t = total ws in
    let l : packed ws vs < 2 ^ t = packed_lt ws vs f.1 in
    ap (λ (z : ℕ). z % 2 ^ w ∷ unpacked ws (v * 2 ^ t + packed ws vs)) (high v t l)
    ∙ ap (λ (z : ℕ). z ∷ unpacked ws (v * 2 ^ t + packed ws vs)) (mod-eq_of_lt f.0)
    ∙ ap (λ (z : List ℕ). v ∷ z) (unpacked_low ws v (packed ws vs) ∙ unpack_pack ws vs f.1)

pub pack_unpack : (ws : List ℕ) (n : ℕ) → packed ws (unpacked ws n) ≡ n % 2 ^ total ws
unfolding packed unpacked total
pack_unpack [] n = sym (mod-one n)
pack_unpack (w ∷ ws) n =
    ap (λ (z : ℕ). n / 2 ^ total ws % 2 ^ w * 2 ^ total ws + z) (pack_unpack ws n) ∙ sym (mod-pow-add n w (total ws))

pub pack_unpack_lt : (ws : List ℕ) (n : ℕ) → n < 2 ^ total ws → packed ws (unpacked ws n) ≡ n
pack_unpack_lt ws n l = pack_unpack ws n ∙ mod-eq_of_lt l

-- ---- cut in two
pub total_append : (ws us : List ℕ) → total (ws ++ us) ≡ total ws + total us
unfolding total
total_append [] us = sym (zero-add (total us))
total_append (w ∷ ws) us = ap (λ (z : ℕ). w + z) (total_append ws us) ∙ sym (add_assoc w (total ws) (total us))

pub unpacked_append : (ws us : List ℕ) (q r : ℕ) → r < 2 ^ total us → unpacked (ws ++ us) (q * 2 ^ total us + r) ≡ unpacked ws q ++ unpacked us r
unfolding unpacked
unpacked_append [] us q r l = unpacked_low us q r
unpacked_append (w ∷ ws) us q r l =
    let n = q * 2 ^ total us + r in
    let e : 2 ^ total (ws ++ us) ≡ 2 ^ total us * 2 ^ total ws = ap (λ (z : ℕ). 2 ^ z) (total_append ws us) ∙ pow_comm (total ws) (total us) in
    ap (λ (z : ℕ). n / z % 2 ^ w ∷ unpacked (ws ++ us) n) e
    ∙ ap (λ (z : ℕ). z % 2 ^ w ∷ unpacked (ws ++ us) n) (sym (div-div-eq-div-mul n (2 ^ total us) (2 ^ total ws)))
    ∙ ap (λ (z : ℕ). z / 2 ^ total ws % 2 ^ w ∷ unpacked (ws ++ us) n) (high q (total us) l)
    ∙ ap (λ (z : List ℕ). q / 2 ^ total ws % 2 ^ w ∷ z) (unpacked_append ws us q r l)
  where
    pow_comm : (a b : ℕ) → 2 ^ (a + b) ≡ 2 ^ b * 2 ^ a
    pow_comm a b = ap (λ (z : ℕ). 2 ^ z) (let e : a + b ≡ b + a = omega arith in e) ∙ pow-add 2 b a

-- the first field, of any list
packed_none : (ws : List ℕ) → packed ws [] ≡ 0
unfolding packed
packed_none [] = refl
packed_none (w ∷ ws) = refl

pub packed_first : (w : ℕ) (ws vs : List ℕ) → packed (w ∷ ws) vs ≡ get_or vs 0 0 * 2 ^ total ws + packed ws (drop 1 vs)
unfolding packed
packed_first w ws [] =
    let e : 0 * 2 ^ total ws ≡ 0 = zero-mul (2 ^ total ws) in
    let f : packed ws [] ≡ 0 = packed_none ws in
    omega arith
packed_first w ws (v ∷ vs) = refl

-- the first field from a place on, where b is the place after it
pub packed-at : (w : ℕ) (ws s : List ℕ) (at b : ℕ) → b ≡ at + 1 → packed (w ∷ ws) (drop at s) ≡ get_or s at 0 * 2 ^ total ws + packed ws (drop b s)
packed-at w ws s at b e =
    packed_first w ws (drop at s)
    ∙ ap (λ (z : ℕ). z * 2 ^ total ws + packed ws (drop 1 (drop at s))) (get_or-drop at s 0 0 ∙ ap (λ (z : ℕ). get_or s z 0) (add-zero at))
    ∙ ap (λ (z : List ℕ). get_or s at 0 * 2 ^ total ws + packed ws z) (drop-drop 1 at s ∙ ap (λ (z : ℕ). drop z s) (sym e))

pub packed_append : (ws us vs : List ℕ) → packed (ws ++ us) vs ≡ packed ws vs * 2 ^ total us + packed us (drop (length ws) vs)
unfolding packed
packed_append [] us vs = let e : 0 * 2 ^ total us ≡ 0 = zero-mul (2 ^ total us) in omega arith
packed_append (w ∷ ws) us vs =
    let x = get_or vs 0 0 in
    let a = packed ws (drop 1 vs) in
    packed_first w (ws ++ us) vs
    ∙ ap (λ (z : ℕ). x * z + packed (ws ++ us) (drop 1 vs)) (ap (λ (z : ℕ). 2 ^ z) (total_append ws us) ∙ pow-add 2 (total ws) (total us))
    ∙ ap (λ (z : ℕ). x * (2 ^ total ws * 2 ^ total us) + z) (packed_append ws us (drop 1 vs))
    ∙ ap (λ (z : ℕ). z + (a * 2 ^ total us + packed us (drop (length ws) (drop 1 vs)))) (sym (mul_assoc x (2 ^ total ws) (2 ^ total us)))
    ∙ sym (add_assoc (x * 2 ^ total ws * 2 ^ total us) (a * 2 ^ total us) (packed us (drop (length ws) (drop 1 vs))))
    ∙ ap (λ (z : ℕ). z + packed us (drop (length ws) (drop 1 vs))) (sym (add-mul (x * 2 ^ total ws) a (2 ^ total us)))
    ∙ ap (λ (z : ℕ). z * 2 ^ total us + packed us (drop (length ws) (drop 1 vs))) (sym (packed_first w ws vs))
    ∙ ap (λ (z : List ℕ). packed (w ∷ ws) vs * 2 ^ total us + packed us z)
    (drop-drop (length ws) 1 vs ∙ ap (λ (z : ℕ). drop z vs) (let e : 1 + length ws ≡ suc (length ws) = omega arith in e))

-- a field cut in two
pub packed_cut : (j k : ℕ) (ws : List ℕ) (v : ℕ) (vs : List ℕ) → packed ((j + k) ∷ ws) (v ∷ vs) ≡ packed (j ∷ k ∷ ws) (v / 2 ^ k ∷ v % 2 ^ k ∷ vs)
unfolding packed total
packed_cut j k ws v vs =
    let p = 2 ^ total ws in
    ap (λ (z : ℕ). z * p + packed ws vs) (sym (split v k))
    ∙ ap (λ (z : ℕ). z + packed ws vs) (add-mul (v / 2 ^ k * 2 ^ k) (v % 2 ^ k) p)
    ∙ add_assoc (v / 2 ^ k * 2 ^ k * p) (v % 2 ^ k * p) (packed ws vs)
    ∙ ap (λ (z : ℕ). z + (v % 2 ^ k * p + packed ws vs)) (mul_assoc (v / 2 ^ k) (2 ^ k) p ∙ ap (λ (z : ℕ). v / 2 ^ k * z) (sym (pow-add 2 k (total ws))))

-- the same after other fields
pub packed_cut_in : (ps us : List ℕ) (j k : ℕ) (ws : List ℕ) (v : ℕ) (vs : List ℕ) → length ps ≡ length us
    → packed (ps ++ ((j + k) ∷ ws)) (us ++ (v ∷ vs)) ≡ packed (ps ++ (j ∷ k ∷ ws)) (us ++ (v / 2 ^ k ∷ v % 2 ^ k ∷ vs))
unfolding packed total
packed_cut_in [] [] j k ws v vs e = packed_cut j k ws v vs
packed_cut_in [] (u ∷ us) j k ws v vs e = absurd (omega arith)
packed_cut_in (p ∷ ps) [] j k ws v vs e = absurd (omega arith)
packed_cut_in (p ∷ ps) (u ∷ us) j k ws v vs e =
    let t : total (ps ++ ((j + k) ∷ ws)) ≡ total (ps ++ (j ∷ k ∷ ws)) =
    total_append ps ((j + k) ∷ ws)
    ∙ ap (λ (z : ℕ). total ps + z) (add_assoc j k (total ws))
    ∙ sym (total_append ps (j ∷ k ∷ ws))
    in
    ap (λ (z : ℕ). u * 2 ^ z + packed (ps ++ ((j + k) ∷ ws)) (us ++ (v ∷ vs))) t
    ∙ ap (λ (z : ℕ). u * 2 ^ total (ps ++ (j ∷ k ∷ ws)) + z) (packed_cut_in ps us j k ws v vs (omega arith))

-- ---- one field of two words side by side: in the high word, in the low word, across the seam
pub field_high : (q r a b w : ℕ) → r < 2 ^ a → (q * 2 ^ a + r) / 2 ^ (a + b) % 2 ^ w ≡ q / 2 ^ b % 2 ^ w
field_high q r a b w l =
    ap (λ (z : ℕ). (q * 2 ^ a + r) / z % 2 ^ w) (pow-add 2 a b)
    ∙ ap (λ (z : ℕ). z % 2 ^ w) (sym (div-div-eq-div-mul (q * 2 ^ a + r) (2 ^ a) (2 ^ b)))
    ∙ ap (λ (z : ℕ). z / 2 ^ b % 2 ^ w) (high q a l)

pub field_below : (q r e w t : ℕ) → (q * 2 ^ (e + (w + t)) + r) / 2 ^ t % 2 ^ w ≡ r / 2 ^ t % 2 ^ w
field_below q r e w t =
    ap (λ (z : ℕ). (z + r) / 2 ^ t % 2 ^ w) (ap (λ (z : ℕ). q * z) (pow-add 2 e (w + t)) ∙ sym (mul_assoc q (2 ^ e) (2 ^ (w + t))))
    ∙ field_low (q * 2 ^ e) r w t

pub field_across : (q r t j k : ℕ) → r < 2 ^ (k + t) → (q * 2 ^ (k + t) + r) / 2 ^ t % 2 ^ (j + k) ≡ q % 2 ^ j * 2 ^ k + r / 2 ^ t % 2 ^ k
field_across q r t j k l =
    let x = r / 2 ^ t in
    let lx : x < 2 ^ k = shr_lt k t l in
    let e : q * 2 ^ (k + t) ≡ q * 2 ^ k * 2 ^ t = ap (λ (z : ℕ). q * z) (pow-add 2 k t) ∙ sym (mul_assoc q (2 ^ k) (2 ^ t)) in
    ap (λ (z : ℕ). (z + r) / 2 ^ t % 2 ^ (j + k)) e
    ∙ ap (λ (z : ℕ). z % 2 ^ (j + k)) (mul-add-div_right (pow_pos t) (q * 2 ^ k) r)
    ∙ mod-pow-add (q * 2 ^ k + x) j k
    ∙ ap (λ (z : ℕ). z % 2 ^ j * 2 ^ k + (q * 2 ^ k + x) % 2 ^ k) (high q k lx)
    ∙ ap (λ (z : ℕ). q % 2 ^ j * 2 ^ k + z) (mul-add-mod_self_right q (2 ^ k) x)

-- ---- lists of bytes
pub length-unpacked : (ws : List ℕ) (n : ℕ) → length (unpacked ws n) ≡ length ws
unfolding unpacked
length-unpacked [] n = refl
length-unpacked (w ∷ ws) n = ap suc (length-unpacked ws n)

-- what comes after the fields does not matter
pub packed_front : (ws vs us : List ℕ) → length ws ≤ length vs → packed ws (vs ++ us) ≡ packed ws vs
unfolding packed
packed_front [] vs us l = refl
packed_front (w ∷ ws) [] us l = absurd (omega arith)
packed_front (w ∷ ws) (v ∷ vs) us l = ap (λ (z : ℕ). v * 2 ^ total ws + z) (packed_front ws vs us (omega arith))

packed_from : (ws s : List ℕ) → packed ws (take (length ws) s) ≡ packed ws s
unfolding packed
packed_from [] s = refl
packed_from (w ∷ ws) [] = refl
packed_from (w ∷ ws) (v ∷ vs) = ap (λ (z : ℕ). v * 2 ^ total ws + z) (packed_from ws vs)

pub packed-take : (ws s : List ℕ) (n : ℕ) → n ≡ length ws → packed ws (take n s) ≡ packed ws s
packed-take ws s n e = ap (λ (k : ℕ). packed ws (take k s)) e ∙ packed_from ws s

pub octets_fit : (n : ℕ) (s : List ℕ) → n ≤ length s → Bytes s → FitsIn (replicate n 8) (take n s)
octets_fit zero s l f = tt
octets_fit (suc n) [] l f = absurd (omega arith)
octets_fit (suc n) (v ∷ s) l f = (f 0, octets_fit n s (omega arith) (λ i. f (suc i)))

pub unpacked_bytes : (n x : ℕ) → Bytes (unpacked (replicate n 8) x)
unfolding unpacked
unpacked_bytes zero x i = omega arith
unpacked_bytes (suc n) x zero = mod-lt (x / 2 ^ total (replicate n 8)) (pow_pos 8)
unpacked_bytes (suc n) x (suc i) = unpacked_bytes n x i

pub packed_zeros : (ws : List ℕ) (n : ℕ) → packed ws (replicate n 0) ≡ 0
unfolding packed
packed_zeros [] n = refl
packed_zeros (w ∷ ws) zero = refl
packed_zeros (w ∷ ws) (suc n) =
    let e : 0 * 2 ^ total ws ≡ 0 = zero-mul (2 ^ total ws) in
    let f : packed ws (replicate n 0) ≡ 0 = packed_zeros ws n in
    omega arith
