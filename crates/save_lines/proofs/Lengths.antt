-- The lengths of the lines, and that they are small enough to be added: from the lengths of the parts.
-- Assumes nothing.
use mathlib.Core.Path.{◌≡◌, refl, sym, ap}
use mathlib.Core.List.{List, [], ◌∷◌, ◌++◌}
use Prim.Native.Nat.{ℕ, suc, ◌+◌, ◌≤◌, ◌<◌}
use native.Mathlib.Omega.{arith}
use lib.ListN.{length, length-append}
use Rattle.cells.specs.Text.{bytes}
use Rattle.cells.proofs.Split.{by_eq}
use Rattle.store_desk.specs.declared.Key.{Key}
use Rattle.store_desk.specs.declared.Kind.{Kind}
use Rattle.store_desk.specs.declared.Kind.TheVariants.{Cue, Group, Sub}
use Rattle.store_head.specs.declared.Head.{Head}
use Rattle.store_head.specs.declared.Patch.{Patch}
use Rattle.value.specs.Number.{fraction_digits}
use Rattle.value_written.specs.Text.{integer_text, fraction_text, number_text, level_text, time_text, marked_text}
use Rattle.value_written.proofs.Texts.{integer_ten, number_length, fraction_short, level_length, time_long}
use Rattle.save_lines.specs.Line.{crlf, joined, patch_text, patch_line, kind_text, primary_text, delay_text, time_line, link_line, head_lines, Lit, pair_text}
use Rattle.save_lines.proofs.Parts.{patch_none, patch_some, primary_parts, delay_none, delay_some, time_none, time_some, link_none, link_some, head_parts}

-- ---- values of 32 bits
pub number_long : (w f : ℕ) → w < 4294967296 → length (number_text w f) ≤ 12
number_long w f h =
    let a = integer_ten w h in
    let b : length (fraction_text fraction_digits f) ≤ fraction_digits + 1 = fraction_short fraction_digits f in
    let c = number_length w f in
    omega arith

pub kind_long : (k : Kind) → length (kind_text k) ≤ 6
unfolding kind_text
kind_long Cue = omega arith
kind_long Group = omega arith
kind_long Sub = omega arith

-- ---- PATCH
pub patch_text-length : (page dimmer : ℕ) (p : Patch)
    → length (patch_text page dimmer p) ≡ length (integer_text page) + length (integer_text p.channel) + length (integer_text dimmer) + 12
unfolding patch_text
patch_text-length page dimmer p =
    let l : List ℕ = bytes "@" ++ level_text p.level in
    let a : length (level_text p.level) ≡ 3 = level_length p.level in
    let b : length (integer_text dimmer ++ l) ≡ length (integer_text dimmer) + length l = length-append (integer_text dimmer) l in
    let m : List ℕ = bytes "<" ++ (integer_text dimmer ++ l) in
    let c : length (integer_text p.channel ++ m) ≡ length (integer_text p.channel) + length m = length-append (integer_text p.channel) m in
    let n : List ℕ = bytes " " ++ (integer_text p.channel ++ m) in
    let e : length (integer_text page ++ n) ≡ length (integer_text page) + length n = length-append (integer_text page) n in
    omega arith

module _ (page dimmer : ℕ) (p : Patch) where
  pub patch_length_none : p.channel ≡ 0 → 0 ≡ length (joined (patch_line page dimmer p))
  patch_length_none e = sym (ap length (patch_none page dimmer p e))

  pub patch_length_some : {a b c : ℕ} → a ≡ length (integer_text page) → b ≡ length (integer_text p.channel) → c ≡ length (integer_text dimmer)
      → (p.channel ≡ 0 → ⊥) → a + b + c + 14 ≡ length (joined (patch_line page dimmer p))
  patch_length_some ea eb ec e =
      let l = patch_text-length page dimmer p in
      let m : length (patch_text page dimmer p ++ crlf) ≡ length (patch_text page dimmer p) + 2 = length-append (patch_text page dimmer p) crlf in
      let n : length (patch_text page dimmer p ++ crlf) ≡ length (joined (patch_line page dimmer p)) = ap length (patch_some page dimmer p e) in
      omega arith

-- ---- the primary
pub primary_length_is : (k : Kind) (key : Key) {a b c : ℕ} → a ≡ length (kind_text k) → b ≡ length (number_text key.whole key.fraction)
    → c ≡ length (integer_text key.page) → a + b + 1 + c + 2 ≡ length (joined (primary_text k key ∷ []))
unfolding marked_text
primary_length_is k key ea eb ec =
    let n : List ℕ = number_text key.whole key.fraction in
    let p : List ℕ = marked_text (bytes " ") key.page in
    let l : length (p ++ crlf) ≡ length p + 2 = length-append p crlf in
    let m : length (n ++ (p ++ crlf)) ≡ length n + length (p ++ crlf) = length-append n (p ++ crlf) in
    let o : length (kind_text k ++ (n ++ (p ++ crlf))) ≡ length (kind_text k) + length (n ++ (p ++ crlf)) = length-append (kind_text k) (n ++ (p ++ crlf)) in
    let z : length (kind_text k ++ (n ++ (p ++ crlf))) ≡ length (joined (primary_text k key ∷ [])) = ap length (primary_parts k key refl) in
    omega arith

-- ---- times
pub delay-length_none : (delay : ℕ) → delay ≡ 0 → 0 ≡ length (delay_text delay)
delay-length_none delay e = sym (ap length (delay_none delay e))

pub delay-length_some : (delay : ℕ) {a : ℕ} → a ≡ length (time_text delay) → (delay ≡ 0 → ⊥) → 1 + a ≡ length (delay_text delay)
delay-length_some delay ea e = let l : suc (length (time_text delay)) ≡ length (delay_text delay) = ap length (delay_some delay e) in omega arith

pub delay_long : (delay : ℕ) → delay < 4294967296 → length (delay_text delay) ≤ 20
delay_long delay h =
    by_eq delay 0
    (λ e. let l = delay-length_none delay e in omega arith)
    (λ e. let l = delay-length_some delay {a = length (time_text delay)} refl e in let m = time_long delay h in omega arith)

module _ (word : List ℕ) (present fade delay : ℕ) where
  pub time_length_none : present ≡ 0 → 0 ≡ length (joined (time_line word present fade delay))
  time_length_none e = sym (ap length (time_none word present fade delay e))

  pub time_length_some : {a b : ℕ} → a ≡ length (time_text fade) → b ≡ length (delay_text delay)
      → (present ≡ 0 → ⊥) → length word + a + b + 2 ≡ length (joined (time_line word present fade delay))
  time_length_some ea eb e =
      let l : length (delay_text delay ++ crlf) ≡ length (delay_text delay) + 2 = length-append (delay_text delay) crlf in
      let m : length (time_text fade ++ (delay_text delay ++ crlf)) ≡ length (time_text fade) + length (delay_text delay ++ crlf) =
      length-append (time_text fade) (delay_text delay ++ crlf)
      in
      let n : length (word ++ (time_text fade ++ (delay_text delay ++ crlf))) ≡ length word + length (time_text fade ++ (delay_text delay ++ crlf)) =
      length-append word (time_text fade ++ (delay_text delay ++ crlf))
      in
      let z : length (word ++ (time_text fade ++ (delay_text delay ++ crlf))) ≡ length (joined (time_line word present fade delay)) =
      ap length (time_some word present fade delay e)
      in
      omega arith

  pub time_line_long : length word ≤ 9 → fade < 4294967296 → delay < 4294967296 → length (joined (time_line word present fade delay)) ≤ 50
  time_line_long h f g =
      by_eq present 0
      (λ e. let l = time_length_none e in omega arith)
      (λ e.
      let l = time_length_some {a = length (time_text fade)} {b = length (delay_text delay)} refl refl e in
      let m = time_long fade f in
      let n = delay_long delay g in
      omega arith)

-- ---- LINK
module _ (h : Head) where
  pub link-length_none : h.link ≡ 0 → 0 ≡ length (joined (link_line h))
  link-length_none e = sym (ap length (link_none h e))

  pub link-length_some : {a : ℕ} → a ≡ length (number_text h.link_whole h.link_fraction)
      → (h.link ≡ 0 → ⊥) → 5 + a + 2 ≡ length (joined (link_line h))
  link-length_some ea e =
      let n : List ℕ = number_text h.link_whole h.link_fraction in
      let l : length (n ++ crlf) ≡ length n + 2 = length-append n crlf in
      let z : length (bytes "LINK " ++ (n ++ crlf)) ≡ length (joined (link_line h)) = ap length (link_some h e) in
      omega arith

  pub link_long : h.link_whole < 4294967296 → length (joined (link_line h)) ≤ 19
  link_long f =
      by_eq h.link 0
      (λ e. let l = link-length_none e in omega arith)
      (λ e.
      let l = link-length_some {a = length (number_text h.link_whole h.link_fraction)} refl e in
      let m = number_long h.link_whole h.link_fraction f in
      omega arith)

  -- ---- all of a head
  pub head_length_is : {a b c l : ℕ} → a ≡ length (joined (time_line (bytes "UP ") h.up h.up_fade h.up_delay))
      → b ≡ length (joined (time_line (bytes "DOWN ") h.down h.down_fade h.down_delay))
      → c ≡ length (joined (time_line (bytes "FOLLOWON ") h.followon h.followon_time 0))
      → l ≡ length (joined (link_line h)) → a + b + c + l ≡ length (joined (head_lines h))
  head_length_is ea eb ec el =
      let u = joined (time_line (bytes "UP ") h.up h.up_fade h.up_delay) in
      let d = joined (time_line (bytes "DOWN ") h.down h.down_fade h.down_delay) in
      let f = joined (time_line (bytes "FOLLOWON ") h.followon h.followon_time 0) in
      let k = joined (link_line h) in
      let x : length (f ++ k) ≡ length f + length k = length-append f k in
      let y : length (d ++ (f ++ k)) ≡ length d + length (f ++ k) = length-append d (f ++ k) in
      let z : length (u ++ (d ++ (f ++ k))) ≡ length u + length (d ++ (f ++ k)) = length-append u (d ++ (f ++ k)) in
      let w : length (u ++ (d ++ (f ++ k))) ≡ length (joined (head_lines h)) = ap length (head_parts h) in
      omega arith

-- ---- a pair
pub pair_length : (p : Lit) → length (pair_text p) ≡ length (integer_text p.channel) + 5
unfolding pair_text
pair_length p =
    let l : List ℕ = bytes "@" ++ level_text p.level in
    let a : length (level_text p.level) ≡ 3 = level_length p.level in
    let b : length (integer_text p.channel ++ l) ≡ length (integer_text p.channel) + length l = length-append (integer_text p.channel) l in
    omega arith

-- ---- what the functions that find a length go by
pub ruleset lengths = (integer_ten, time_long, number_long, kind_long, delay_long, patch_length_none, patch_length_some, primary_length_is, delay-length_none, delay-length_some, time_length_none, time_length_some, link-length_none, link-length_some)
