-- What is left of a record: which characters are kept and which were seen, one after the other; the kept ones in front of the others. By
-- cases on a character's tests, and by induction on the characters.
-- Assumes nothing.
use mathlib.Core.Path.{◌≡◌, refl, sym, ap, ◌∙◌, subst}
use mathlib.Core.Bool.{Bool, true, false, cond, not, ◌||◌}
use mathlib.Core.List.{List, [], ◌∷◌, ◌++◌, append-nil}
use Prim.Native.Nat.{ℕ, zero, suc, ◌+◌, ◌≤◌, ◌<◌, zero-le, suc-le-suc}
use native.Mathlib.Numerals.{add-one}
use native.Mathlib.Omega.{arith}
use lib.Dec.{eqb, ltb, leb}
use lib.ListN.{length, get_or, set, take, drop, length-append, drop_of_length-le, length-set}
use lib.Seq.{drop-cons, append_snoc, length-take-le, take_at, take-append-le}
use borrow.Author.Tests.{le-ltb, lt-leb, le-leb, ne_eqb, eq-eqb, eqb-true, leb-true, leb-false, not-true}
use Rattle.std.specs.List.{fold, position}
use Rattle.std.specs.Option.{unwrap_or}
use Rattle.std.proofs.Math.Bool.{or_assoc}
use Rattle.cells.specs.Put.{put}
use Rattle.cells.proofs.Put.{put_nil, put_zero, put_push, put_front, put_part, length-put, get_d_after}
use Rattle.cells.proofs.Scan.{span_hit, span_miss, span_nil, span_le, span-take, all_below, span_position}
use Rattle.cells.proofs.Split.{by_test, by_bool, by_eq, cond-true, cond-false, or_false, or_left, or_right, or_true_left, or_true_right, or_none, not_of_true, not_of_false, not-not}
use Rattle.text_records.specs.declared.Cleaned.{Cleaned}
use Rattle.text_records.specs.declared.Seen.{Seen}
use Rattle.text_records.specs.Cleaning.{is_high, is_control, is_mark, kept_of, has}
use Rattle.text_records.specs.Window.{seen_of, is_kept, mark_of, InFront, in_front, cleaned_of}

-- ---- a character is of one sort
pub high_control : (c : ℕ) → is_high c ≡ true → is_control c ≡ false
unfolding is_high is_control
high_control c e =
    let h : 128 ≤ c = leb-true 128 c e in
    cond-false (ltb c 32) (not (eqb c 9)) (eqb c 127) (le-ltb c 32 (omega arith)) ∙ ne_eqb c 127 (omega arith)

pub mark_plain : (c : ℕ) → is_mark c ≡ true → is_high c ≡ false
unfolding is_mark is_high
mark_plain c e = let h : c ≡ 33 = eqb-true c 33 e in lt-leb 128 c (omega arith)

pub mark_text : (c : ℕ) → is_mark c ≡ true → is_control c ≡ false
unfolding is_mark is_control
mark_text c e =
    let h : c ≡ 33 = eqb-true c 33 e in
    cond-false (ltb c 32) (not (eqb c 9)) (eqb c 127) (le-ltb c 32 (omega arith)) ∙ ne_eqb c 127 (omega arith)

-- as the code tests it
pub high_is : (c : ℕ) → 127 < c → is_high c ≡ true
unfolding is_high
high_is c h = le-leb 128 c (omega arith)

pub high_not : (c : ℕ) → c ≤ 127 → is_high c ≡ false
unfolding is_high
high_not c h = lt-leb 128 c (omega arith)

pub high_as : (c : ℕ) → ltb 127 c ≡ is_high c
unfolding is_high
high_as c = refl

-- where the first `!` stands, or the end
pub mark_found : (s : List ℕ) → unwrap_or (position (λ (c : ℕ). eqb c 33) s) (length s) ≡ mark_of s
unfolding is_mark
mark_found s = span_position (λ (c : ℕ). eqb c 33) s

-- not ignored, as the code tests it
pub kept_is : (c : ℕ) → is_kept c ≡ cond (leb 127 c) false (not (is_control c))
unfolding is_kept is_control
kept_is c =
    by_test (λ (b : Bool). is_kept c ≡ b) (leb 127 c) false (not (is_control c))
    (λ t.
    let h : 127 ≤ c = leb-true 127 c t in
    not_of_true (is_high c || is_control c)
    (by_eq c 127
    (λ e.
    or_true_right (is_high c) (is_control c)
    (cond-false (ltb c 32) (not (eqb c 9)) (eqb c 127) (le-ltb c 32 (omega arith)) ∙ eq-eqb c 127 e))
    (λ ne. or_true_left (is_high c) (is_control c) (high_is c (omega arith)))))
    (λ t.
    let h : c < 127 = leb-false 127 c t in
    ap (λ (b : Bool). not (b || is_control c)) (high_not c (omega arith)))

-- ---- a character at the front decides what is kept
kept_nil : kept_of [] ≡ []
unfolding kept_of
kept_nil = refl

module _ (c : ℕ) (cs : List ℕ) where
  pub kept_this : is_high c ≡ false → is_control c ≡ false → is_mark c ≡ false → kept_of (c ∷ cs) ≡ c ∷ kept_of cs
  unfolding kept_of
  kept_this h k m =
      cond-false (is_mark c) _ _ m ∙ cond-false (is_high c || is_control c) _ _ (or_false (is_high c) (is_control c) h k)

  kept_past : (is_high c || is_control c) ≡ true → is_mark c ≡ false → kept_of (c ∷ cs) ≡ kept_of cs
  unfolding kept_of
  kept_past h m = cond-false (is_mark c) _ _ m ∙ cond-true (is_high c || is_control c) _ _ h

  kept_stop : is_mark c ≡ true → kept_of (c ∷ cs) ≡ []
  unfolding kept_of
  kept_stop m = cond-true (is_mark c) _ _ m

-- what is left of what is left
kept_by : (m i : Bool) (c : ℕ) (ks : List ℕ) → kept_of ks ≡ ks → is_mark c ≡ m → (is_high c || is_control c) ≡ i
    → kept_of (cond m [] (cond i ks (c ∷ ks))) ≡ cond m [] (cond i ks (c ∷ ks))
unfolding kept_of
kept_by true i c ks h e f = refl
kept_by false true c ks h e f = h
kept_by false false c ks h e f =
    cond-false (is_mark c) [] (cond (is_high c || is_control c) (kept_of ks) (c ∷ kept_of ks)) e
    ∙ cond-false (is_high c || is_control c) (kept_of ks) (c ∷ kept_of ks) f
    ∙ ap (λ (x : List ℕ). c ∷ x) h

pub kept_again : (r : List ℕ) → kept_of (kept_of r) ≡ kept_of r
unfolding kept_of
kept_again [] = refl
kept_again (c ∷ r) = kept_by (is_mark c) (is_high c || is_control c) c (kept_of r) (kept_again r) refl refl

pub kept_length : (xs : List ℕ) → length (kept_of xs) ≤ length xs
unfolding kept_of
kept_length [] = zero-le
kept_length (c ∷ cs) =
    let r : length (kept_of cs) ≤ length cs = kept_length cs in
    by_test (λ (ks : List ℕ). length ks ≤ suc (length cs)) (is_mark c) _ _ (λ e. zero-le)
    (λ e. by_test (λ (ks : List ℕ). length ks ≤ suc (length cs)) (is_high c || is_control c) _ _ (λ f. omega arith) (λ f. suc-le-suc r))

-- what follows the `!` adds nothing
abbrev unmarked : ℕ → Bool
unmarked c = not (is_mark c)

kept_front : (xs : List ℕ) → kept_of (take (mark_of xs) xs) ≡ kept_of xs
kept_front [] = ap (λ (k : ℕ). kept_of (take k [])) (span_nil unmarked)
kept_front (c ∷ cs) =
    by_bool (is_mark c)
    (λ m. ap (λ (k : ℕ). kept_of (take k (c ∷ cs))) (span_miss unmarked c cs (not_of_true (is_mark c) m)) ∙ kept_nil ∙ sym (kept_stop c cs m))
    (λ m.
    ap (λ (k : ℕ). kept_of (take k (c ∷ cs))) (span_hit unmarked c cs (not_of_false (is_mark c) m))
    ∙ by_bool (is_high c || is_control c)
    (λ h. kept_past c (take (mark_of cs) cs) h m ∙ kept_front cs ∙ sym (kept_past c cs h m))
    (λ h. more h m (take (mark_of cs) cs) ∙ ap (λ (r : List ℕ). c ∷ r) (kept_front cs) ∙ sym (more h m cs)))
  where
    more : (is_high c || is_control c) ≡ false → is_mark c ≡ false → (ys : List ℕ) → kept_of (c ∷ ys) ≡ c ∷ kept_of ys
    more h m ys = kept_this c ys (or_left (is_high c) (is_control c) h) (or_right (is_high c) (is_control c) h) m

-- ---- what stands in a record
has_this : (p : ℕ → Bool) (c : ℕ) (cs : List ℕ) → p c ≡ true → has p (c ∷ cs) ≡ true
unfolding has
has_this p c cs e = or_true_left (p c) (has p cs) e

has_past : (p : ℕ → Bool) (c : ℕ) (cs : List ℕ) → p c ≡ false → has p (c ∷ cs) ≡ has p cs
unfolding has
has_past p c cs e = ap (λ (b : Bool). b || has p cs) e

pub has_none : (p : ℕ → Bool) (xs : List ℕ) → ((k : ℕ) → k < length xs → p (get_or xs k 0) ≡ false) → has p xs ≡ false
unfolding has
has_none p [] f = refl
has_none p (c ∷ cs) f =
    or_false (p c) (has p cs) (f 0 (omega arith)) (has_none p cs (λ k h. f (suc k) (omega arith)))

pub none_has : (p : ℕ → Bool) (xs : List ℕ) → has p xs ≡ false → (k : ℕ) → k < length xs → p (get_or xs k 0) ≡ false
unfolding has
none_has p [] e k h = absurd (omega arith)
none_has p (c ∷ cs) e zero h = or_left (p c) (has p cs) e
none_has p (c ∷ cs) e (suc k) h = none_has p cs (or_right (p c) (has p cs) e) k (omega arith)

-- a fold over all of them finds it
pub has_folded : (p : ℕ → Bool) (b : Bool) (s : List ℕ) → fold (λ (f : Bool) (c : ℕ). f || p c) b s ≡ (b || has p s)
unfolding has
has_folded p b [] = sym (or_none b)
has_folded p b (c ∷ s) = has_folded p (b || p c) s ∙ or_assoc b (p c) (has p s)

-- without ignored characters all is kept up to the `!`
kept_all : (xs : List ℕ) → has is_high xs ≡ false → has is_control xs ≡ false → kept_of xs ≡ take (mark_of xs) xs
unfolding has
kept_all [] h k = kept_nil ∙ ap (λ (n : ℕ). take n []) (sym (span_nil unmarked))
kept_all (c ∷ cs) h k =
    by_bool (is_mark c)
    (λ m. kept_stop c cs m ∙ ap (λ (n : ℕ). take n (c ∷ cs)) (sym (span_miss unmarked c cs (not_of_true (is_mark c) m))))
    (λ m.
    kept_this c cs (or_left (is_high c) (has is_high cs) h) (or_left (is_control c) (has is_control cs) k) m
    ∙ ap (λ (r : List ℕ). c ∷ r) (kept_all cs (or_right (is_high c) (has is_high cs) h) (or_right (is_control c) (has is_control cs) k))
    ∙ ap (λ (n : ℕ). take n (c ∷ cs)) (sym (span_hit unmarked c cs (not_of_false (is_mark c) m))))

-- ---- at place i
front : (s : List ℕ) (i : ℕ) → i < length s → drop i s ≡ get_or s i 0 ∷ drop (i + 1) s
front s i h = drop-cons s i 0 h ∙ ap (λ (k : ℕ). get_or s i 0 ∷ drop k s) (sym (add-one i))

-- a loop that looks for a character: b tells whether one stands before place i, so that `b || has p (drop i s) ≡ a`; m is what b becomes
module _ (p : ℕ → Bool) (s : List ℕ) (i : ℕ) (b : Bool) {a m : Bool} where
  pub looked_this : {t : Bool} → i < length s → t ≡ p (get_or s i 0) → t ≡ true → m ≡ true → (b || has p (drop i s)) ≡ a
      → (m || has p (drop (i + 1) s)) ≡ a
  looked_this l e f g h =
      or_true_left m (has p (drop (i + 1) s)) g
      ∙ sym (or_true_right b (has p (drop i s)) (ap (has p) (front s i l) ∙ has_this p (get_or s i 0) (drop (i + 1) s) (sym e ∙ f))) ∙ h

  pub looked_past : {t : Bool} → i < length s → t ≡ p (get_or s i 0) → t ≡ false → m ≡ b → (b || has p (drop i s)) ≡ a
      → (m || has p (drop (i + 1) s)) ≡ a
  looked_past l e f g h =
      ap (λ (x : Bool). x || has p (drop (i + 1) s)) g
      ∙ ap (λ (x : Bool). b || x) (sym (ap (has p) (front s i l) ∙ has_past p (get_or s i 0) (drop (i + 1) s) (sym e ∙ f))) ∙ h

  -- whatever stands at place i
  pub looked_on : i < length s → m ≡ (b || p (get_or s i 0)) → (b || has p (drop i s)) ≡ a → (m || has p (drop (i + 1) s)) ≡ a
  looked_on l g h =
      by_bool (p (get_or s i 0))
      (λ t. looked_this l refl t (g ∙ or_true_right b (p (get_or s i 0)) t) h)
      (λ t. looked_past l refl t (g ∙ ap (λ (x : Bool). b || x) t ∙ or_none b) h)

pub looked_all : (p : ℕ → Bool) (s : List ℕ) (i : ℕ) {a b : Bool} → length s ≤ i → (b || has p (drop i s)) ≡ a → b ≡ a
unfolding has
looked_all p s i {a} {b} l h =
    sym (or_none b) ∙ ap (λ (x : Bool). b || x) (sym (ap (has p) (drop_of_length-le s l))) ∙ h

pub seen_all : (s : List ℕ) {h c : Bool} → h ≡ has is_high s → c ≡ has is_control s
    → ◌≡◌ {A = Seen} (record { high = h; control = c }) (seen_of s)
unfolding seen_of
seen_all s e f = λ j. record { high = e j; control = f j }

-- ---- the kept ones move to the front: what holds before place i
pub record Squeezed (s₀ s : List ℕ) (n i : ℕ) : Type 0 where
  pub ks : List ℕ
  pub within : i ≤ length s₀
  pub long : length s ≡ length s₀
  pub size : n ≡ length ks
  pub few : n ≤ i
  pub held : s ≡ put s₀ 0 ks
  pub same : kept_of s₀ ≡ ks ++ kept_of (drop i s₀)

pub squeezed_none : (s : List ℕ) → Squeezed s s 0 0
squeezed_none s =
    record { ks = []; within = zero-le; long = refl; size = refl; few = zero-le; held = sym (put_nil s 0); same = refl }

module _ (s₀ s : List ℕ) (n i : ℕ) {t : Bool} (o : Squeezed s₀ s n i) (w : mark_of s₀ ≡ length s₀) (l : i < length s₀)
    (e : t ≡ is_kept (get_or s i 0)) where
  -- what stands at place i was not yet written to
  as_was : get_or s i 0 ≡ get_or s₀ i 0
  as_was =
      let h : 0 + length o.ks ≤ i = omega (arith, o.size, o.few) in
      ap (λ (z : List ℕ). get_or z i 0) o.held ∙ get_d_after s₀ 0 o.ks i h zero-le

  no_mark : is_mark (get_or s₀ i 0) ≡ false
  no_mark = not-true (is_mark (get_or s₀ i 0)) (all_below unmarked s₀ w i l)

  ignored : {b : Bool} → t ≡ b → (is_high (get_or s₀ i 0) || is_control (get_or s₀ i 0)) ≡ not b
  unfolding is_kept
  ignored f =
      sym (not-not (is_high (get_or s₀ i 0) || is_control (get_or s₀ i 0))) ∙ ap not (ap is_kept (sym as_was) ∙ sym e ∙ f)

  is_at : {ys : List ℕ} → kept_of (get_or s₀ i 0 ∷ drop (i + 1) s₀) ≡ ys → kept_of s₀ ≡ o.ks ++ ys
  is_at f =
      o.same ∙ ap (λ (xs : List ℕ). o.ks ++ kept_of xs) (front s₀ i l) ∙ ap (λ (ys : List ℕ). o.ks ++ ys) f

  pub squeezed_kept : {z : List ℕ} {m : ℕ} → t ≡ true → z ≡ set s n (get_or s i 0) → m ≡ n + 1 → Squeezed s₀ z m (i + 1)
  squeezed_kept f u v =
      let c = get_or s₀ i 0 in
      let g : (is_high c || is_control c) ≡ false = ignored f in
      let r : n < length s₀ = omega (arith, o.few) in
      let q : n ≡ 0 + length o.ks = omega (arith, o.size) in
      record {
        ks = o.ks ++ (c ∷ []);
        within = omega arith;
        long = ap (λ (x : List ℕ). length x) u ∙ length-set s n (get_or s i 0) ∙ o.long;
        size = v ∙ ap (λ (x : ℕ). x + 1) o.size ∙ sym (length-append o.ks (c ∷ []));
        few = omega (arith, o.few);
        held =
            u ∙ ap (λ (x : ℕ). set s n x) as_was ∙ ap (λ (y : List ℕ). set y n c) o.held ∙ put_push s₀ 0 o.ks n c q r;
        same =
            is_at (kept_this c (drop (i + 1) s₀) (or_left (is_high c) (is_control c) g) (or_right (is_high c) (is_control c) g) no_mark)
            ∙ sym (append_snoc o.ks c (kept_of (drop (i + 1) s₀)));
      }

  pub squeezed_past : {z : List ℕ} {m : ℕ} → t ≡ false → z ≡ s → m ≡ n → Squeezed s₀ z m (i + 1)
  squeezed_past f u v =
      record {
        ks = o.ks;
        within = omega arith;
        long = ap (λ (x : List ℕ). length x) u ∙ o.long;
        size = v ∙ o.size;
        few = omega (arith, o.few);
        held = u ∙ o.held;
        same = is_at (kept_past (get_or s₀ i 0) (drop (i + 1) s₀) (ignored f) no_mark);
      }

module _ (s₀ s : List ℕ) (n i : ℕ) (o : Squeezed s₀ s n i) (l : length s₀ ≤ i) where
  all_there : kept_of s₀ ≡ o.ks
  unfolding kept_of
  all_there =
      o.same ∙ ap (λ (xs : List ℕ). o.ks ++ kept_of xs) (drop_of_length-le s₀ l) ∙ append-nil o.ks

  pub squeezed_count : n ≡ length (kept_of s₀)
  squeezed_count = o.size ∙ ap (λ (k : List ℕ). length k) (sym all_there)

  pub squeezed_all : s ≡ put s₀ 0 (kept_of s₀)
  squeezed_all = o.held ∙ ap (put s₀ 0) (sym all_there)

-- ---- the text in front
pub mark_within : (s : List ℕ) {end : ℕ} → end ≡ mark_of s → end ≤ length s
mark_within s e = let h : mark_of s ≤ length s = span_le unmarked s in omega arith

pub front_length : (s : List ℕ) {end : ℕ} → end ≡ mark_of s → end ≡ length (take end s)
front_length s {end} e = sym (length-take-le end s (mark_within s e))

-- the part before the `!` has none
pub front_unmarked : (s : List ℕ) {end : ℕ} → end ≡ mark_of s → mark_of (take end s) ≡ length (take end s)
front_unmarked s {end} e =
    let k : mark_of s ≤ end = omega arith in
    span-take unmarked end s k ∙ sym e ∙ front_length s e

module _ (s : List ℕ) {end : ℕ} {v : Seen} (e : end ≡ mark_of s) (w : v ≡ seen_of s) where
  high_seen : v.high ≡ has is_high s
  unfolding seen_of
  high_seen = ap (λ (x : Seen). x.high) w

  control_seen : v.control ≡ has is_control s
  unfolding seen_of
  control_seen = ap (λ (x : Seen). x.control) w

  front_kept : kept_of (take end s) ≡ kept_of s
  front_kept = ap (λ (k : ℕ). kept_of (take k s)) e ∙ kept_front s

  answer : {n : ℕ} {bs : List ℕ} → n ≡ length (kept_of s) → bs ≡ put s 0 (kept_of s)
      → in_front (record { count = n; high = v.high; control = v.control }) bs ≡ cleaned_of s
  unfolding cleaned_of
  answer f g = λ j. in_front (record { count = f j; high = high_seen j; control = control_seen j }) (g j)

  -- a part that was squeezed
  pub cleaned_squeezed : {n : ℕ} {ys : List ℕ} → n ≡ length (kept_of (take end s)) → ys ≡ put (take end s) 0 (kept_of (take end s))
      → in_front (record { count = n; high = v.high; control = v.control }) (ys ++ drop end s) ≡ cleaned_of s
  cleaned_squeezed {n} {ys} f g =
      let l : 0 + end ≤ length s = omega (arith, mark_within s e) in
      let m : length (kept_of (take end s)) ≤ length (take end s) = kept_length (take end s) in
      let r : end ≡ length (take end s) = front_length s e in
      answer (f ∙ ap (λ (k : List ℕ). length k) front_kept)
      (put_front s 0 end ys (kept_of (take end s)) g (omega arith) l ∙ ap (put s 0) front_kept)

  -- nothing to move
  pub cleaned_same : v.high ≡ false → v.control ≡ false
      → in_front (record { count = end; high = v.high; control = v.control }) s ≡ cleaned_of s
  cleaned_same f g =
      let l : 0 + end ≤ length s = omega (arith, mark_within s e) in
      let k : kept_of s ≡ take end s = kept_all s (sym high_seen ∙ f) (sym control_seen ∙ g) ∙ ap (λ (n : ℕ). take n s) (sym e) in
      answer (front_length s e ∙ ap (λ (r : List ℕ). length r) (sym k))
      (sym (put_part s 0 end l) ∙ ap (put s 0) (sym k))

-- ---- what callers cite: what stands in the answer, and the text at the front of the bytes
module _ (xs : List ℕ) {r : Cleaned} {bs : List ℕ} (e : in_front r bs ≡ cleaned_of xs) where
  pub cleaned_count : r.count ≡ length (kept_of xs)
  unfolding cleaned_of
  cleaned_count = ap (λ (c : InFront). c.cleaned.count) e

  pub cleaned_high : r.high ≡ has is_high xs
  unfolding cleaned_of
  cleaned_high = ap (λ (c : InFront). c.cleaned.high) e

  pub cleaned_control : r.control ≡ has is_control xs
  unfolding cleaned_of
  cleaned_control = ap (λ (c : InFront). c.cleaned.control) e

  cleaned_bytes : bs ≡ put xs 0 (kept_of xs)
  unfolding cleaned_of
  cleaned_bytes = ap (λ (c : InFront). c.bytes) e

  pub cleaned_text : take r.count bs ≡ kept_of xs
  cleaned_text =
      ap (λ (z : List ℕ). take r.count z) (cleaned_bytes ∙ put_zero xs (kept_of xs))
      ∙ take_at (kept_of xs) (drop (length (kept_of xs)) xs) r.count (sym cleaned_count)

  pub cleaned_length : length bs ≡ length xs
  cleaned_length =
      let l : 0 + length (kept_of xs) ≤ length xs = omega (arith, kept_length xs) in
      ap (λ (z : List ℕ). length z) cleaned_bytes ∙ length-put xs 0 (kept_of xs) l

  -- within the record's bytes
  pub cleaned_within : r.count ≤ length xs
  cleaned_within = subst (λ (n : ℕ). n ≤ length xs) (sym cleaned_count) (kept_length xs)

  -- and the same where these are the front of an array
  pub cleaned_front : (rest : List ℕ) → take r.count (bs ++ rest) ≡ kept_of xs
  cleaned_front rest = take-append-le r.count bs rest (omega (arith, cleaned_within, cleaned_length)) ∙ cleaned_text
