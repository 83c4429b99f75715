-- Heads and patch entries: the code's words are the packed table, decoding undoes encoding and encoding decoding, and the quick number of a
-- key. From the laws of packing at the tables' widths.
-- Assumes nothing.
use mathlib.Core.Path.{◌≡◌, refl, sym, ap, ◌∙◌, subst}
use mathlib.Core.List.{List, [], ◌∷◌, ◌++◌}
use Prim.Native.Nat.{ℕ, zero, suc, ◌+◌, ◌-◌, ◌*◌, ◌/◌, ◌%◌, ◌^◌, ◌<◌, ◌≤◌}
use native.Mathlib.Nat.{mod-lt, div-one, div-div-eq-div-mul, zero-mul, suc-mul, mod-eq_of_lt}
use native.Mathlib.Omega.{arith}
use lib.Arith.{digits_lt}
use lib.Pow.{pow_pos, pow-add, split}
use lib.Bits.{bit_or, or_shifted}
use lib.ListN.{length, get_or, take, drop, replicate, length-drop}
use lib.Seq.{drop-drop, get_or-drop}
use mir.Syntax.{w64}
use Rattle.std.specs.Int.{from_be_bytes}
use Rattle.std.specs.Simd.{first_chunks}
use Rattle.store_head.specs.declared.Head.{Head}
use Rattle.store_head.specs.declared.Patch.{Patch}
use Rattle.store_head.specs.Pack.{total, packed, unpacked, FitsIn, Bytes}
use Rattle.store_head.specs.Layout.{octets, flag_bits, page_bits, whole_bits, fraction_bits, time_bits, rest_bits, head_widths, head_values, head_from, encode_head, decode_head, patch_widths, patch_values, patch_of, encode_patch, decode_patch}
use Rattle.store_head.specs.Fits.{flag_span, page_span, whole_span, fraction_span, time_span, rest_span, channel_span, HeadFits, key_widths, used_word, page_word, whole_word, word_of, quick_of, PatchFits}
use Rattle.store_head.specs.Words.{up_rest, down_rest, first_word, second_word, third_word}
use Rattle.store_head.proofs.Pack.{packed_lt, unpacked_fits, unpack_pack, pack_unpack_lt, unpacked_append, packed-at, packed_append, packed_cut_in, field_high, field_below, field_across, length-unpacked, packed_front, packed-take, octets_fit, unpacked_bytes, packed_zeros}

-- ---- bytes as numbers
pub packed_three : (s : List ℕ) {a b c : ℕ} → a ≡ get_or s 0 0 → b ≡ get_or s 1 0 → c ≡ get_or s 2 0
    → a * 65536 + b * 256 + c ≡ packed (octets 3) s
unfolding packed total
packed_three s {a} {b} {c} ea eb ec =
    let p₀ : packed (octets 3) s ≡ get_or s 0 0 * 65536 + packed (octets 2) (drop 1 s) = packed-at 8 (octets 2) s 0 1 refl in
    let p₁ : packed (octets 2) (drop 1 s) ≡ get_or s 1 0 * 256 + packed (octets 1) (drop 2 s) = packed-at 8 (octets 1) s 1 2 refl in
    let p₂ : packed (octets 1) (drop 2 s) ≡ get_or s 2 0 * 1 + 0 = packed-at 8 [] s 2 3 refl in
    omega arith

-- the same of eight, as `from_be_bytes` says it
packed_eight : (s : List ℕ) → from_be_bytes w64 s ≡ packed (octets 8) s
unfolding packed total
packed_eight s =
    let p₀ : packed (octets 8) s ≡ get_or s 0 0 * 2 ^ 56 + packed (octets 7) (drop 1 s) = packed-at 8 (octets 7) s 0 1 refl in
    let p₁ : packed (octets 7) (drop 1 s) ≡ get_or s 1 0 * 2 ^ 48 + packed (octets 6) (drop 2 s) = packed-at 8 (octets 6) s 1 2 refl in
    let p₂ : packed (octets 6) (drop 2 s) ≡ get_or s 2 0 * 2 ^ 40 + packed (octets 5) (drop 3 s) = packed-at 8 (octets 5) s 2 3 refl in
    let p₃ : packed (octets 5) (drop 3 s) ≡ get_or s 3 0 * 2 ^ 32 + packed (octets 4) (drop 4 s) = packed-at 8 (octets 4) s 3 4 refl in
    let p₄ : packed (octets 4) (drop 4 s) ≡ get_or s 4 0 * 2 ^ 24 + packed (octets 3) (drop 5 s) = packed-at 8 (octets 3) s 4 5 refl in
    let p₅ : packed (octets 3) (drop 5 s) ≡ get_or s 5 0 * 2 ^ 16 + packed (octets 2) (drop 6 s) = packed-at 8 (octets 2) s 5 6 refl in
    let p₆ : packed (octets 2) (drop 6 s) ≡ get_or s 6 0 * 2 ^ 8 + packed (octets 1) (drop 7 s) = packed-at 8 (octets 1) s 6 7 refl in
    let p₇ : packed (octets 1) (drop 7 s) ≡ get_or s 7 0 * 1 + 0 = packed-at 8 [] s 7 8 refl in
    omega arith

chunk_at : (n k i : ℕ) (s : List ℕ) → i < k → get_or (first_chunks n k s) i [] ≡ take n (drop (i * n) s)
chunk_at n zero i s l = absurd (omega arith)
chunk_at n (suc k) zero s l = ap (λ (z : ℕ). take n (drop z s)) (sym (zero-mul n))
chunk_at n (suc k) (suc i) s l =
    chunk_at n k i (drop n s) (omega arith)
    ∙ ap (λ (z : List ℕ). take n z) (drop-drop (i * n) n s)
    ∙ ap (λ (z : ℕ). take n (drop z s)) (let f : suc i * n ≡ i * n + n = suc-mul i n in let e : n + i * n ≡ suc i * n = omega arith in e)

-- a word of the chunks of eight bytes
pub word_is : (s : List ℕ) (i : ℕ) {ws : List (List ℕ)} {k n : ℕ} → ws ≡ first_chunks 8 k s → i < k → n ≡ from_be_bytes w64 (get_or ws i [])
    → n ≡ packed (octets 8) (drop (i * 8) s)
word_is s i {ws} {k} {n} e l f =
    f
    ∙ packed_eight (get_or ws i [])
    ∙ ap (λ (z : List ℕ). packed (octets 8) z) (ap (λ (z : List (List ℕ)). get_or z i []) e ∙ chunk_at 8 k i s l)
    ∙ packed-take (octets 8) (drop (i * 8) s) 8 refl

-- ---- fields side by side: `|` adds what stands below
pub or_sum : (k : ℕ) {x y a b : ℕ} → x ≡ a → y ≡ b → a % 2 ^ k ≡ 0 → b < 2 ^ k → bit_or x y ≡ a + b
or_sum k {x} {y} {a} {b} e f m l =
    let h : a / 2 ^ k * 2 ^ k ≡ a = let g = split a k in omega arith in
    ap (λ (z : ℕ). bit_or z y) (e ∙ sym h) ∙ ap (λ (z : ℕ). bit_or (a / 2 ^ k * 2 ^ k) z) f ∙ or_shifted (a / 2 ^ k) k b l ∙ ap (λ (z : ℕ). z + b) h

-- the same of a field shifted up in a word
pub or_field : (k j : ℕ) {x y a v : ℕ} → x ≡ a → y ≡ v → a % 2 ^ k ≡ 0 → v * 2 ^ j < 2 ^ k → 2 ^ k ≤ 2 ^ 64 → bit_or x (y * 2 ^ j % 2 ^ 64) ≡ a + v * 2 ^ j
or_field k j {v = v} e f m l t =
    or_sum k e (ap (λ (z : ℕ). z * 2 ^ j % 2 ^ 64) f ∙ mod-eq_of_lt (let g : v * 2 ^ j < 2 ^ 64 = omega arith in g)) m l

-- ---- decoding by words
-- two words and three words side by side
abbrev pub beside : ℕ → ℕ → ℕ
beside a b = a * 2 ^ 64 + b

module _ (a b c : ℕ) (hb : b < 2 ^ 64) (hc : c < 2 ^ 64) where
  in_first : (t w : ℕ) → (beside (beside a b) c) / 2 ^ (64 + (64 + t)) % 2 ^ w ≡ a / 2 ^ t % 2 ^ w
  in_first t w = field_high (beside a b) c 64 (64 + t) w hc ∙ field_high a b 64 t w hb

  in_second : (e w t : ℕ) → e + (w + t) ≡ 64 → (beside (beside a b) c) / 2 ^ (64 + t) % 2 ^ w ≡ b / 2 ^ t % 2 ^ w
  in_second e w t q =
      field_high (beside a b) c 64 t w hc
      ∙ subst (λ (z : ℕ). (a * 2 ^ z + b) / 2 ^ t % 2 ^ w ≡ b / 2 ^ t % 2 ^ w) q (field_below a b e w t)

  in_third : (e w t : ℕ) → e + (w + t) ≡ 64 → (beside (beside a b) c) / 2 ^ t % 2 ^ w ≡ c / 2 ^ t % 2 ^ w
  in_third e w t q = subst (λ (z : ℕ). ((beside a b) * 2 ^ z + c) / 2 ^ t % 2 ^ w ≡ c / 2 ^ t % 2 ^ w) q (field_below (beside a b) c e w t)

  -- the two delays that a word's end cuts
  up_cut : (beside (beside a b) c) / 2 ^ 103 % time_span ≡ a % 2 ^ 1 * 2 ^ up_rest + b / 2 ^ 39 % 2 ^ up_rest
  up_cut = field_high (beside a b) c 64 39 time_bits hc ∙ field_across a b 39 1 up_rest hb

  down_cut : (beside (beside a b) c) / 2 ^ 50 % time_span ≡ b % 2 ^ 12 * 2 ^ down_rest + c / 2 ^ 50 % 2 ^ down_rest
  down_cut =
      let m : (beside a b) % 2 ^ 12 ≡ b % 2 ^ 12 = sym (ap (λ (z : ℕ). z % 2 ^ 12) (div-one (beside a b))) ∙ field_below a b 52 12 0 ∙ ap (λ (z : ℕ). z % 2 ^ 12) (div-one b) in
      field_across (beside a b) c 50 12 down_rest hc ∙ ap (λ (z : ℕ). z * 2 ^ down_rest + c / 2 ^ 50 % 2 ^ down_rest) m

  zero_bits : (beside (beside a b) c) / 2 ^ 0 % rest_span ≡ c % rest_span
  zero_bits = in_third 41 rest_bits 0 refl ∙ ap (λ (z : ℕ). z % rest_span) (div-one c)

  pub words_decode : head_from (unpacked head_widths (beside (beside a b) c))
      ≡ record {
        used = a / 2 ^ 63 % flag_span;
        page = a / 2 ^ 57 % page_span;
        whole = a / 2 ^ 47 % whole_span;
        fraction = a / 2 ^ 43 % fraction_span;
        link = a / 2 ^ 42 % flag_span;
        link_whole = a / 2 ^ 32 % whole_span;
        link_fraction = a / 2 ^ 28 % fraction_span;
        up = a / 2 ^ 27 % flag_span;
        up_fade = a / 2 ^ 1 % time_span;
        up_delay = a % 2 ^ 1 * 2 ^ up_rest + b / 2 ^ 39 % 2 ^ up_rest;
        down = b / 2 ^ 38 % flag_span;
        down_fade = b / 2 ^ 12 % time_span;
        down_delay = b % 2 ^ 12 * 2 ^ down_rest + c / 2 ^ 50 % 2 ^ down_rest;
        followon = c / 2 ^ 49 % flag_span;
        followon_time = c / rest_span % time_span;
        rest = c % rest_span;
      }
  unfolding unpacked total
  words_decode i =
      record {
        used = in_first 63 flag_bits i;
        page = in_first 57 page_bits i;
        whole = in_first 47 whole_bits i;
        fraction = in_first 43 fraction_bits i;
        link = in_first 42 flag_bits i;
        link_whole = in_first 32 whole_bits i;
        link_fraction = in_first 28 fraction_bits i;
        up = in_first 27 flag_bits i;
        up_fade = in_first 1 time_bits i;
        up_delay = up_cut i;
        down = in_second 25 flag_bits 38 refl i;
        down_fade = in_second 26 time_bits 12 refl i;
        down_delay = down_cut i;
        followon = in_third 14 flag_bits 49 refl i;
        followon_time = in_third 15 time_bits rest_bits refl i;
        rest = zero_bits i;
      }

pub words_of : (s : List ℕ) {a b c : ℕ} → a ≡ packed (octets 8) (drop 0 s) → b ≡ packed (octets 8) (drop 8 s) → c ≡ packed (octets 8) (drop 16 s)
    → head_from (unpacked head_widths (beside (beside a b) c)) ≡ decode_head s
unfolding decode_head total
words_of s {a} {b} {c} ea eb ec =
    let p : packed (octets 16) s ≡ beside (packed (octets 8) s) (packed (octets 8) (drop 8 s)) = packed_append (octets 8) (octets 8) s in
    let q : packed (octets 24) s ≡ beside (packed (octets 16) s) (packed (octets 8) (drop 16 s)) = packed_append (octets 16) (octets 8) s in
    let e : beside (beside a b) c ≡ packed (octets 24) s =
    ap (λ (z : ℕ). beside (beside z b) c) ea
    ∙ ap (λ (z : ℕ). beside (beside (packed (octets 8) s) z) c) eb
    ∙ ap (λ (z : ℕ). beside (beside (packed (octets 8) s) (packed (octets 8) (drop 8 s))) z) ec
    ∙ ap (λ (z : ℕ). beside z (packed (octets 8) (drop 16 s))) (sym p)
    ∙ sym q
    in
    ap (λ (z : ℕ). head_from (unpacked head_widths z)) e

-- ---- encoding by words
fits_in : (h : Head) → HeadFits h → FitsIn head_widths (head_values h)
fits_in h f = (
  f.used,
  (
    f.page,
    (
      f.whole,
      (
        f.fraction,
        (
          f.link,
          (
            f.link_whole_of,
            (
              f.link_fraction_of,
              (
                f.up,
                (f.up_fade_of, (f.up_delay_of, (f.down, (f.down_fade_of, (f.down_delay_of, (f.followon, (f.followon_time_of, (f.rest, tt)))))))),
              ),
            ),
          ),
        ),
      ),
    ),
  ),
)

module _ (h : Head) (f : HeadFits h) where
  lowest : third_word h < 2 ^ 64
  unfolding third_word total
  lowest =
      packed_lt (down_rest ∷ flag_bits ∷ time_bits ∷ rest_bits ∷ []) (h.down_delay % 2 ^ down_rest ∷ h.followon ∷ h.followon_time ∷ h.rest ∷ [])
      (mod-lt h.down_delay (pow_pos down_rest), (f.followon, (f.followon_time_of, (f.rest, tt))))

  middle : second_word h < 2 ^ 64
  unfolding second_word total
  middle =
      packed_lt (up_rest ∷ flag_bits ∷ time_bits ∷ (time_bits - down_rest) ∷ []) (h.up_delay % 2 ^ up_rest ∷ h.down ∷ h.down_fade ∷ h.down_delay / 2 ^ down_rest ∷ []) (
        mod-lt h.up_delay (pow_pos up_rest),
        (f.down, (f.down_fade_of, ((let g = f.down_delay_of in let l : h.down_delay / 2 ^ down_rest < 2 ^ (time_bits - down_rest) = omega arith in l), tt))),
      )

-- the table, its two delays cut, is the three words
pub words_head : (h : Head) → packed head_widths (head_values h) ≡ first_word h * 2 ^ 128 + beside (second_word h) (third_word h)
unfolding packed total first_word second_word third_word
words_head h =
    let us : List ℕ =
    h.used ∷ h.page ∷ h.whole ∷ h.fraction ∷ h.link ∷ h.link_whole ∷ h.link_fraction ∷ h.up ∷ h.up_fade ∷ []
    in
    let vs : List ℕ = h.up_delay / 2 ^ up_rest ∷ h.up_delay % 2 ^ up_rest ∷ h.down ∷ h.down_fade ∷ [] in
    let xs : List ℕ = h.down ∷ h.down_fade ∷ h.down_delay ∷ h.followon ∷ h.followon_time ∷ h.rest ∷ [] in
    let ys : List ℕ = h.down_delay / 2 ^ down_rest ∷ h.down_delay % 2 ^ down_rest ∷ h.followon ∷ h.followon_time ∷ h.rest ∷ [] in
    packed_cut_in
    (flag_bits ∷ page_bits ∷ whole_bits ∷ fraction_bits ∷ flag_bits ∷ whole_bits ∷ fraction_bits ∷ flag_bits ∷ time_bits ∷ [])
    us
    (time_bits - up_rest)
    up_rest
    (flag_bits ∷ time_bits ∷ time_bits ∷ flag_bits ∷ time_bits ∷ rest_bits ∷ [])
    h.up_delay
    xs
    refl
    ∙ packed_cut_in
    (flag_bits ∷ page_bits ∷ whole_bits ∷ fraction_bits ∷ flag_bits ∷ whole_bits ∷ fraction_bits ∷ flag_bits ∷ time_bits ∷ (time_bits - up_rest) ∷ up_rest ∷ flag_bits ∷ time_bits ∷ [])
    (us ++ vs)
    (time_bits - down_rest)
    down_rest
    (flag_bits ∷ time_bits ∷ rest_bits ∷ [])
    h.down_delay
    (h.followon ∷ h.followon_time ∷ h.rest ∷ [])
    refl
    ∙ packed_append
    (flag_bits ∷ page_bits ∷ whole_bits ∷ fraction_bits ∷ flag_bits ∷ whole_bits ∷ fraction_bits ∷ flag_bits ∷ time_bits ∷ (time_bits - up_rest) ∷ [])
    (up_rest ∷ flag_bits ∷ time_bits ∷ (time_bits - down_rest) ∷ down_rest ∷ flag_bits ∷ time_bits ∷ rest_bits ∷ [])
    (us ++ (vs ++ ys))
    ∙ ap (λ (z : ℕ). first_word h * 2 ^ 128 + z)
    (packed_append
    (up_rest ∷ flag_bits ∷ time_bits ∷ (time_bits - down_rest) ∷ [])
    (down_rest ∷ flag_bits ∷ time_bits ∷ rest_bits ∷ [])
    (h.up_delay % 2 ^ up_rest ∷ h.down ∷ h.down_fade ∷ ys))

pub words_encode : (h : Head) → HeadFits h → encode_head h ≡ unpacked (octets 8) (first_word h) ++ (unpacked (octets 8) (second_word h) ++ unpacked (octets 8) (third_word h))
unfolding encode_head total
words_encode h f =
    let lb = middle h f in
    let lc = lowest h f in
    let l : beside (second_word h) (third_word h) < 2 ^ 128 = digits_lt lb lc in
    ap (λ (z : ℕ). unpacked (octets 24) z) (words_head h)
    ∙ unpacked_append (octets 8) (octets 16) (first_word h) (beside (second_word h) (third_word h)) l
    ∙ ap (λ (z : List ℕ). unpacked (octets 8) (first_word h) ++ z) (unpacked_append (octets 8) (octets 8) (second_word h) (third_word h) lc)

-- ---- there and back
head_values_lem : (ws : List ℕ) (n : ℕ) → ws ≡ head_widths → head_values (head_from (unpacked ws n)) ≡ unpacked ws n
unfolding unpacked
head_values_lem ws n e = subst (λ (z : List ℕ). head_values (head_from (unpacked z n)) ≡ unpacked z n) (sym e) refl

head_lt : (h : Head) → HeadFits h → packed head_widths (head_values h) < 2 ^ total (octets 24)
unfolding total
head_lt h f = packed_lt head_widths (head_values h) (fits_in h f)

pub decode_encode : (h : Head) → HeadFits h → (xs : List ℕ) → decode_head (encode_head h ++ xs) ≡ h
unfolding encode_head decode_head
decode_encode h f xs =
    let n = packed head_widths (head_values h) in
    let l : length (octets 24) ≤ length (unpacked (octets 24) n) = let e = length-unpacked (octets 24) n in omega arith in
    ap (λ (z : ℕ). head_from (unpacked head_widths z)) (packed_front (octets 24) (unpacked (octets 24) n) xs l ∙ pack_unpack_lt (octets 24) n (head_lt h f))
    ∙ ap head_from (unpack_pack head_widths (head_values h) (fits_in h f))

pub encode_decode : (s : List ℕ) → 24 ≤ length s → Bytes s → encode_head (decode_head s) ≡ take 24 s
unfolding encode_head decode_head total
encode_decode s l f =
    let n = packed (octets 24) s in
    let g : FitsIn (octets 24) (take 24 s) = octets_fit 24 s l f in
    let e : packed (octets 24) (take 24 s) ≡ n = packed-take (octets 24) s 24 refl in
    let b : n < 2 ^ 192 = subst (λ (z : ℕ). z < 2 ^ 192) e (packed_lt (octets 24) (take 24 s) g) in
    ap (λ (z : List ℕ). unpacked (octets 24) (packed head_widths z)) (head_values_lem head_widths n refl)
    ∙ ap (λ (z : ℕ). unpacked (octets 24) z) (pack_unpack_lt head_widths n b ∙ sym e)
    ∙ unpack_pack (octets 24) (take 24 s) g

pub length_encode : (h : Head) → length (encode_head h) ≡ 24
unfolding encode_head
length_encode h = length-unpacked (octets 24) (packed head_widths (head_values h))

pub encode_bytes : (h : Head) → Bytes (encode_head h)
unfolding encode_head
encode_bytes h = unpacked_bytes 24 (packed head_widths (head_values h))

-- what is decoded fits
pub decode_fits : (s : List ℕ) → HeadFits (decode_head s)
unfolding decode_head unpacked
decode_fits s =
    let f = unpacked_fits head_widths (packed (octets 24) s) in
    record {
      used = f.0;
      page = f.1.0;
      whole = f.1.1.0;
      fraction = f.1.1.1.0;
      link = f.1.1.1.1.0;
      link_whole_of = f.1.1.1.1.1.0;
      link_fraction_of = f.1.1.1.1.1.1.0;
      up = f.1.1.1.1.1.1.1.0;
      up_fade_of = f.1.1.1.1.1.1.1.1.0;
      up_delay_of = f.1.1.1.1.1.1.1.1.1.0;
      down = f.1.1.1.1.1.1.1.1.1.1.0;
      down_fade_of = f.1.1.1.1.1.1.1.1.1.1.1.0;
      down_delay_of = f.1.1.1.1.1.1.1.1.1.1.1.1.0;
      followon = f.1.1.1.1.1.1.1.1.1.1.1.1.1.0;
      followon_time_of = f.1.1.1.1.1.1.1.1.1.1.1.1.1.1.0;
      rest = f.1.1.1.1.1.1.1.1.1.1.1.1.1.1.1.0;
    }

-- zero bytes are a head of zeros
pub decode_zeros : (n : ℕ) → decode_head (replicate n 0) ≡ head_from (replicate 16 0)
unfolding decode_head unpacked total
decode_zeros n = ap (λ (z : ℕ). head_from (unpacked head_widths z)) (packed_zeros (octets 24) n)

-- the head is in the first 24 bytes
pub decode_take : (s : List ℕ) → decode_head (take 24 s) ≡ decode_head s
unfolding decode_head
decode_take s = ap (λ (z : ℕ). head_from (unpacked head_widths z)) (packed-take (octets 24) s 24 refl)

-- ---- the quick number of a key
pub word_sum : (u p w f : ℕ) → word_of u p w f ≡ u * used_word + (p * page_word + (w * whole_word + f))
unfolding word_of packed total
word_sum u p w f = omega arith

key_field : (p r t w : ℕ) → r < 2 ^ 168 → (p * 2 ^ 168 + r) / 2 ^ (168 + (3 + t)) % 2 ^ w ≡ p / 8 / 2 ^ t % 2 ^ w
key_field p r t w l =
    field_high p r 168 (3 + t) w l
    ∙ ap (λ (z : ℕ). p / z % 2 ^ w) (pow-add 2 3 t)
    ∙ ap (λ (z : ℕ). z % 2 ^ w) (sym (div-div-eq-div-mul p 8 (2 ^ t)))

-- it is that of the head
pub quick_is : (s : List ℕ) → 24 ≤ length s → Bytes s → quick_of s ≡ word_of (decode_head s).used (decode_head s).page (decode_head s).whole (decode_head s).fraction
unfolding quick_of word_of decode_head total unpacked
quick_is s l f =
    let p = packed (octets 3) s in
    let r = packed (octets 21) (drop 3 s) in
    let n : packed (octets 24) s ≡ p * 2 ^ 168 + r = packed_append (octets 3) (octets 21) s in
    let d : 21 ≤ length (drop 3 s) = let e = length-drop 3 s in omega arith in
    let hr : r < 2 ^ 168 =
    subst (λ (z : ℕ). z < 2 ^ 168) (packed-take (octets 21) (drop 3 s) 21 refl)
    (packed_lt (octets 21) (take 21 (drop 3 s)) (octets_fit 21 (drop 3 s) d (λ i. subst (λ (z : ℕ). z < 256) (sym (get_or-drop 3 s i 0)) (f (3 + i)))))
    in
    let hp : p < 16777216 =
    subst (λ (z : ℕ). z < 2 ^ 24) (packed-take (octets 3) s 3 refl) (packed_lt (octets 3) (take 3 s) (octets_fit 3 s (omega arith) f))
    in
    let q : p / 8 < 2097152 = omega arith in
    let at : (t w : ℕ) → packed (octets 24) s / 2 ^ (168 + (3 + t)) % 2 ^ w ≡ p / 8 / 2 ^ t % 2 ^ w =
    λ t w. ap (λ (z : ℕ). z / 2 ^ (168 + (3 + t)) % 2 ^ w) n ∙ key_field p r t w hr
    in
    sym (pack_unpack_lt key_widths (p / 8) q)
    ∙ sym (λ i. packed key_widths (at 20 1 i ∷ at 14 6 i ∷ at 4 10 i ∷ at 0 4 i ∷ []))

-- and tells the key
pub word_same : (u p w f u₂ p₂ w₂ f₂ : ℕ) → FitsIn key_widths (u ∷ p ∷ w ∷ f ∷ []) → FitsIn key_widths (u₂ ∷ p₂ ∷ w₂ ∷ f₂ ∷ [])
    → word_of u p w f ≡ word_of u₂ p₂ w₂ f₂ → ◌≡◌ {A = List ℕ} (u ∷ p ∷ w ∷ f ∷ []) (u₂ ∷ p₂ ∷ w₂ ∷ f₂ ∷ [])
unfolding word_of
word_same u p w f u₂ p₂ w₂ f₂ a b e =
    sym (unpack_pack key_widths (u ∷ p ∷ w ∷ f ∷ []) a)
    ∙ ap (λ (z : ℕ). unpacked key_widths z) e
    ∙ unpack_pack key_widths (u₂ ∷ p₂ ∷ w₂ ∷ f₂ ∷ []) b

-- ---- the patch entry
patch_fits_in : (p : Patch) → PatchFits p → FitsIn patch_widths (patch_values p)
patch_fits_in p f = (f.channel, (f.level, (f.rest, tt)))

patch_values_lem : (ws : List ℕ) (n : ℕ) → ws ≡ patch_widths → patch_values (patch_of (unpacked ws n)) ≡ unpacked ws n
unfolding unpacked
patch_values_lem ws n e = subst (λ (z : List ℕ). patch_values (patch_of (unpacked z n)) ≡ unpacked z n) (sym e) refl

pub decode_encode_patch : (p : Patch) → PatchFits p → decode_patch (encode_patch p) ≡ p
unfolding encode_patch decode_patch total
decode_encode_patch p f =
    let n = packed patch_widths (patch_values p) in
    ap (λ (z : ℕ). patch_of (unpacked patch_widths z)) (pack_unpack_lt (octets 3) n (packed_lt patch_widths (patch_values p) (patch_fits_in p f)))
    ∙ ap patch_of (unpack_pack patch_widths (patch_values p) (patch_fits_in p f))

pub encode_decode_patch : (s : List ℕ) → 3 ≤ length s → Bytes s → encode_patch (decode_patch s) ≡ take 3 s
unfolding encode_patch decode_patch total
encode_decode_patch s l f =
    let n = packed (octets 3) s in
    let g : FitsIn (octets 3) (take 3 s) = octets_fit 3 s l f in
    let e : packed (octets 3) (take 3 s) ≡ n = packed-take (octets 3) s 3 refl in
    let b : n < 2 ^ 24 = subst (λ (z : ℕ). z < 2 ^ 24) e (packed_lt (octets 3) (take 3 s) g) in
    ap (λ (z : List ℕ). unpacked (octets 3) (packed patch_widths z)) (patch_values_lem patch_widths n refl)
    ∙ ap (λ (z : ℕ). unpacked (octets 3) z) (pack_unpack_lt patch_widths n b ∙ sym e)
    ∙ unpack_pack (octets 3) (take 3 s) g

pub length-encode_patch : (p : Patch) → length (encode_patch p) ≡ 3
unfolding encode_patch
length-encode_patch p = length-unpacked (octets 3) (packed patch_widths (patch_values p))

pub encode_patch_bytes : (p : Patch) → Bytes (encode_patch p)
unfolding encode_patch
encode_patch_bytes p = unpacked_bytes 3 (packed patch_widths (patch_values p))

pub decode_patch_fits : (s : List ℕ) → PatchFits (decode_patch s)
unfolding decode_patch unpacked
decode_patch_fits s =
    let f = unpacked_fits patch_widths (packed (octets 3) s) in
    record { channel = f.0; level = f.1.0; rest = f.1.1.0 }

pub decode_patch_zeros : (n : ℕ) → decode_patch (replicate n 0) ≡ patch_of (replicate 3 0)
unfolding decode_patch unpacked total
decode_patch_zeros n = ap (λ (z : ℕ). patch_of (unpacked patch_widths z)) (packed_zeros (octets 3) n)

-- ---- the code's formulas
abbrev pub eight : ℕ → List ℕ
eight w =
    w / 72057594037927936 % 256
    ∷ w / 281474976710656 % 256
    ∷ w / 1099511627776 % 256
    ∷ w / 4294967296 % 256
    ∷ w / 16777216 % 256
    ∷ w / 65536 % 256
    ∷ w / 256 % 256
    ∷ w % 256
    ∷ []

eight_is : (w : ℕ) → eight w ≡ unpacked (octets 8) w
unfolding unpacked total
eight_is w =
    sym
    (ap
    (λ (z : ℕ).
    w / 72057594037927936 % 256
    ∷ w / 281474976710656 % 256
    ∷ w / 1099511627776 % 256
    ∷ w / 4294967296 % 256
    ∷ w / 16777216 % 256
    ∷ w / 65536 % 256
    ∷ w / 256 % 256
    ∷ z % 256
    ∷ [])
    (div-one w))

pub bytes_encode : (h : Head) → HeadFits h → {a b c : ℕ} → a ≡ first_word h → b ≡ second_word h → c ≡ third_word h
    → eight a ++ (eight b ++ eight c) ≡ encode_head h
bytes_encode h f {a} {b} {c} ea eb ec =
    ap (λ (z : List ℕ). z ++ (eight b ++ eight c)) (eight_is a ∙ ap (λ (z : ℕ). unpacked (octets 8) z) ea)
    ∙ ap (λ (z : List ℕ). unpacked (octets 8) (first_word h) ++ (z ++ eight c)) (eight_is b ∙ ap (λ (z : ℕ). unpacked (octets 8) z) eb)
    ∙ ap (λ (z : List ℕ). unpacked (octets 8) (first_word h) ++ (unpacked (octets 8) (second_word h) ++ z)) (eight_is c ∙ ap (λ (z : ℕ). unpacked (octets 8) z) ec)
    ∙ sym (words_encode h f)

pub patch_fields : (s : List ℕ) {n : ℕ} → n ≡ packed (octets 3) s
    → ◌≡◌ {A = Patch} (record { channel = n / 2 ^ 14 % channel_span; level = n / 2 ^ 6 % 2 ^ 8; rest = n % 2 ^ 6 }) (decode_patch s)
unfolding decode_patch unpacked total
patch_fields s {n} e =
    sym (ap (λ (z : ℕ). record { channel = n / 2 ^ 14 % channel_span; level = n / 2 ^ 6 % 2 ^ 8; rest = z % 2 ^ 6 }) (div-one n))
    ∙ ap (λ (z : ℕ). patch_of (unpacked patch_widths z)) e

pub patch_octets : (p : Patch) {n : ℕ} → n ≡ p.channel * 16384 + p.level * 64 + p.rest
    → n / 65536 % 256 ∷ n / 256 % 256 ∷ n % 256 ∷ [] ≡ encode_patch p
unfolding encode_patch packed unpacked total
patch_octets p {n} e =
    let m : n ≡ packed patch_widths (patch_values p) = omega arith in
    sym (ap (λ (z : ℕ). n / 65536 % 256 ∷ n / 256 % 256 ∷ z % 256 ∷ []) (div-one n))
    ∙ ap (λ (z : ℕ). unpacked (octets 3) z) m

-- by computation: cue 2.5 on page 1 with UP 3, bit by bit
pub sample : encode_head (head_from (1 ∷ 1 ∷ 2 ∷ 5 ∷ 0 ∷ 0 ∷ 0 ∷ 1 ∷ 30 ∷ []))
    ≡ 130 ∷ 1 ∷ 40 ∷ 0 ∷ 8 ∷ 0 ∷ 0 ∷ 60 ∷ 0 ∷ 0 ∷ 0 ∷ 0 ∷ 0 ∷ 0 ∷ 0 ∷ 0 ∷ 0 ∷ 0 ∷ 0 ∷ 0 ∷ 0 ∷ 0 ∷ 0 ∷ 0 ∷ []
unfolding encode_head packed unpacked total
sample = refl
