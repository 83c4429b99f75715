-- A memory in good form is what its written lines make of a blank one: the changes that the lines ask for, made one after the other, give
-- its head and its levels. By cases on what is present, and by induction on the levels.
-- Assumes nothing.
use mathlib.Core.Path.{◌≡◌, refl, sym, ap, ◌∙◌, subst}
use mathlib.Core.Bool.{Bool, true, cond, ◌&&◌}
use mathlib.Core.List.{List, [], ◌∷◌, ◌++◌}
use Prim.Native.Nat.{ℕ, suc, ◌+◌, ◌≤◌, ◌<◌}
use native.Mathlib.Omega.{arith}
use lib.Dec.{eqb, leb}
use lib.ListN.{length, replicate, length-append}
use lib.Seq.{append_snoc}
use borrow.Author.Tests.{eqb-true, eq-eqb, ne_eqb}
use Rattle.cells.specs.Put.{put}
use Rattle.cells.proofs.Split.{by_bool, by_eq, cond-true, cond-false, and_left, and_right}
use Rattle.value.specs.Time.{time_max}
use Rattle.store_desk.specs.declared.Desk.{Desk}
use Rattle.store_desk.specs.declared.Kind.{Kind}
use Rattle.store_desk.specs.Size.{Within, level_width, levels_length}
use Rattle.store_desk.specs.Name.{ok_number}
use Rattle.store_head.specs.declared.Head.{Head}
use Rattle.store_head.specs.Pack.{Bytes}
use Rattle.store_head.specs.Fits.{HeadFits}
use Rattle.store.specs.declared.Edit.{Edit}
use Rattle.store.specs.declared.Edit.TheVariants.{Up, Down, Followon, Link}
use Rattle.store.specs.Slots.{key_of}
use Rattle.store.specs.View.{Memory}
use Rattle.store.specs.Change.{blank_head, edit_head}
use Rattle.store.specs.Form.{has_times, has_link, time_fits, link_fits}
use Rattle.store.specs.Memories.{blank_memory, edit_levels, edit_memory, can_have}
use Rattle.store.specs.Fits.{InTime}
use Rattle.store.proofs.Levels.{level_next}
use Rattle.store.proofs.Edits.{Values, time_in}
use Rattle.save_lines.specs.Line.{Lit, lit_from}
use Rattle.theorem_same_show.proofs.Worded.{AllLit}
use Rattle.theorem_same_show.proofs.Does.{lit_edits}

-- ---- changes one after the other
unfoldable pub edit_all : Desk → List Edit → Memory → Memory
edit_all d [] m = m
edit_all d (e ∷ es) m = edit_all d es (edit_memory d e m)

pub edit_append : (d : Desk) (a b : List Edit) (m : Memory) → edit_all d (a ++ b) m ≡ edit_all d b (edit_all d a m)
unfolding edit_all
edit_append d [] b m = refl
edit_append d (e ∷ a) b m = edit_append d a b (edit_memory d e m)

-- of a kind that can have them, and in range
abbrev pub AllHave : Kind → List Edit → Type 0
AllHave k [] = Unit {0}
AllHave k (e ∷ es) = (can_have k e ≡ true) × InTime e × AllHave k es

pub have_append : (k : Kind) (a b : List Edit) → AllHave k a → AllHave k b → AllHave k (a ++ b)
have_append k [] b f g = g
have_append k (e ∷ a) b f g = (f.0, f.1, have_append k a b f.2 g)

-- ---- the changes that a memory's lines ask for
unfoldable pub if_present : ℕ → Edit → List Edit
if_present present e = cond (eqb present 0) [] (e ∷ [])

unfoldable pub head_edits : Head → List Edit
head_edits h =
    if_present h.up (Up h.up_fade h.up_delay)
    ++ (if_present h.down (Down h.down_fade h.down_delay)
    ++ (if_present h.followon (Followon h.followon_time) ++ if_present h.link (Link h.link_whole h.link_fraction)))

unfoldable pub memory_edits : Memory → List Edit
memory_edits m = head_edits m.head ++ lit_edits (lit_from 1 m.levels)

-- ---- good form of a value, taken apart
pub time_absent : (can : Bool) (present time : ℕ) → time_fits can present time ≡ true → present ≡ 0 → time ≡ 0
time_absent can present time e z =
    eqb-true time 0 (sym (cond-true (eqb present 0) (eqb time 0) (can && leb time time_max) (eq-eqb present 0 z)) ∙ e)

module _ (can : Bool) (present time : ℕ) (e : time_fits can present time ≡ true) (ne : present ≡ 0 → ⊥) where
  time_there : (can && leb time time_max) ≡ true
  time_there = sym (cond-false (eqb present 0) (eqb time 0) (can && leb time time_max) (ne_eqb present 0 ne)) ∙ e

  pub time_can : can ≡ true
  time_can = and_left can (leb time time_max) time_there

module _ (can : Bool) (h : Head) (e : link_fits can h ≡ true) where
  link_absent : h.link ≡ 0 → (h.link_whole ≡ 0) × (h.link_fraction ≡ 0)
  unfolding link_fits
  link_absent z =
      let a = eqb h.link_whole 0 in
      let b = eqb h.link_fraction 0 in
      let f : (a && b) ≡ true = sym (cond-true (eqb h.link 0) (a && b) (can && ok_number h.link_whole h.link_fraction) (eq-eqb h.link 0 z)) ∙ e in
      (eqb-true h.link_whole 0 (and_left a b f), eqb-true h.link_fraction 0 (and_right a b f))

  module _ (ne : h.link ≡ 0 → ⊥) where
    link_there : (can && ok_number h.link_whole h.link_fraction) ≡ true
    unfolding link_fits
    link_there =
        sym (cond-false (eqb h.link 0) (eqb h.link_whole 0 && eqb h.link_fraction 0) (can && ok_number h.link_whole h.link_fraction) (ne_eqb h.link 0 ne)) ∙ e

    pub link_can : can ≡ true
    link_can = and_left can (ok_number h.link_whole h.link_fraction) link_there

    pub link_number : ok_number h.link_whole h.link_fraction ≡ true
    link_number = and_right can (ok_number h.link_whole h.link_fraction) link_there

-- ---- the head
one_of : (n : ℕ) → n < 2 → (n ≡ 0 → ⊥) → n ≡ 1
one_of n h ne = by_eq n 0 (λ z. absurd (ne z)) (λ z. omega arith)

if_absent : (present : ℕ) (e : Edit) → present ≡ 0 → if_present present e ≡ []
unfolding if_present
if_absent present e z = cond-true (eqb present 0) [] (e ∷ []) (eq-eqb present 0 z)

if_present_lem : (present : ℕ) (e : Edit) → (present ≡ 0 → ⊥) → if_present present e ≡ e ∷ []
unfolding if_present
if_present_lem present e ne = cond-false (eqb present 0) [] (e ∷ []) (ne_eqb present 0 ne)

-- one part of the head after the other, of a memory with these levels
module _ (d : Desk) (k : Kind) (h : Head) (v : Values k h) (f : HeadFits h) (ls : List ℕ) where
  abbrev shaped : ℕ → ℕ → ℕ → ℕ → ℕ → ℕ → ℕ → ℕ → ℕ → ℕ → ℕ → Memory
  shaped up uf ud down df dd followon ft link lw lf =
      record {
        head = record {
          used = 1;
          page = h.page;
          whole = h.whole;
          fraction = h.fraction;
          link = link;
          link_whole = lw;
          link_fraction = lf;
          up = up;
          up_fade = uf;
          up_delay = ud;
          down = down;
          down_fade = df;
          down_delay = dd;
          followon = followon;
          followon_time = ft;
          rest = 0;
        };
        levels = ls;
      }

  up_part : edit_all d (if_present h.up (Up h.up_fade h.up_delay)) (shaped 0 0 0 0 0 0 0 0 0 0 0)
      ≡ shaped h.up h.up_fade h.up_delay 0 0 0 0 0 0 0 0
  unfolding edit_all edit_memory edit_head put edit_levels
  up_part =
      by_eq h.up 0
      (λ z.
      let a = time_absent (has_times k) h.up h.up_fade v.up_fade_of z in
      let b = time_absent (has_times k) h.up h.up_delay v.up_delay_of z in
      ap (λ (es : List Edit). edit_all d es (shaped 0 0 0 0 0 0 0 0 0 0 0)) (if_absent h.up _ z)
      ∙ (λ i. shaped (sym z i) (sym a i) (sym b i) 0 0 0 0 0 0 0 0))
      (λ ne.
      ap (λ (es : List Edit). edit_all d es (shaped 0 0 0 0 0 0 0 0 0 0 0)) (if_present_lem h.up _ ne)
      ∙ ap (λ (n : ℕ). shaped n h.up_fade h.up_delay 0 0 0 0 0 0 0 0) (sym (one_of h.up f.up ne)))

  down_part : edit_all d (if_present h.down (Down h.down_fade h.down_delay)) (shaped h.up h.up_fade h.up_delay 0 0 0 0 0 0 0 0)
      ≡ shaped h.up h.up_fade h.up_delay h.down h.down_fade h.down_delay 0 0 0 0 0
  unfolding edit_all edit_memory edit_head put edit_levels
  down_part =
      by_eq h.down 0
      (λ z.
      let a = time_absent (has_times k) h.down h.down_fade v.down_fade_of z in
      let b = time_absent (has_times k) h.down h.down_delay v.down_delay_of z in
      ap (λ (es : List Edit). edit_all d es (shaped h.up h.up_fade h.up_delay 0 0 0 0 0 0 0 0)) (if_absent h.down _ z)
      ∙ (λ i. shaped h.up h.up_fade h.up_delay (sym z i) (sym a i) (sym b i) 0 0 0 0 0))
      (λ ne.
      ap (λ (es : List Edit). edit_all d es (shaped h.up h.up_fade h.up_delay 0 0 0 0 0 0 0 0)) (if_present_lem h.down _ ne)
      ∙ ap (λ (n : ℕ). shaped h.up h.up_fade h.up_delay n h.down_fade h.down_delay 0 0 0 0 0) (sym (one_of h.down f.down ne)))

  followon_part : edit_all d (if_present h.followon (Followon h.followon_time))
      (shaped h.up h.up_fade h.up_delay h.down h.down_fade h.down_delay 0 0 0 0 0)
      ≡ shaped h.up h.up_fade h.up_delay h.down h.down_fade h.down_delay h.followon h.followon_time 0 0 0
  unfolding edit_all edit_memory edit_head put edit_levels
  followon_part =
      by_eq h.followon 0
      (λ z.
      let a = time_absent (has_link k) h.followon h.followon_time v.followon z in
      ap (λ (es : List Edit). edit_all d es (shaped h.up h.up_fade h.up_delay h.down h.down_fade h.down_delay 0 0 0 0 0)) (if_absent h.followon _ z)
      ∙ (λ i. shaped h.up h.up_fade h.up_delay h.down h.down_fade h.down_delay (sym z i) (sym a i) 0 0 0))
      (λ ne.
      ap (λ (es : List Edit). edit_all d es (shaped h.up h.up_fade h.up_delay h.down h.down_fade h.down_delay 0 0 0 0 0)) (if_present_lem h.followon _ ne)
      ∙ ap (λ (n : ℕ). shaped h.up h.up_fade h.up_delay h.down h.down_fade h.down_delay n h.followon_time 0 0 0) (sym (one_of h.followon f.followon ne)))

  link_part : edit_all d (if_present h.link (Link h.link_whole h.link_fraction))
      (shaped h.up h.up_fade h.up_delay h.down h.down_fade h.down_delay h.followon h.followon_time 0 0 0)
      ≡ shaped h.up h.up_fade h.up_delay h.down h.down_fade h.down_delay h.followon h.followon_time h.link h.link_whole h.link_fraction
  unfolding edit_all edit_memory edit_head put edit_levels
  link_part =
      by_eq h.link 0
      (λ z.
      let a = link_absent (has_link k) h v.link z in
      ap (λ (es : List Edit). edit_all d es (shaped h.up h.up_fade h.up_delay h.down h.down_fade h.down_delay h.followon h.followon_time 0 0 0)) (if_absent h.link _ z)
      ∙ (λ i. shaped h.up h.up_fade h.up_delay h.down h.down_fade h.down_delay h.followon h.followon_time (sym z i) (sym a.0 i) (sym a.1 i)))
      (λ ne.
      ap (λ (es : List Edit). edit_all d es (shaped h.up h.up_fade h.up_delay h.down h.down_fade h.down_delay h.followon h.followon_time 0 0 0)) (if_present_lem h.link _ ne)
      ∙ ap (λ (n : ℕ). shaped h.up h.up_fade h.up_delay h.down h.down_fade h.down_delay h.followon h.followon_time n h.link_whole h.link_fraction) (sym (one_of h.link f.link ne)))

  whole_head : h.used ≡ 1
      → shaped h.up h.up_fade h.up_delay h.down h.down_fade h.down_delay h.followon h.followon_time h.link h.link_whole h.link_fraction
      ≡ record { head = h; levels = ls }
  whole_head u =
      let z : h.rest ≡ 0 = eqb-true h.rest 0 v.rest in
      λ i.
      record {
        head = record {
          used = sym u i;
          page = h.page;
          whole = h.whole;
          fraction = h.fraction;
          link = h.link;
          link_whole = h.link_whole;
          link_fraction = h.link_fraction;
          up = h.up;
          up_fade = h.up_fade;
          up_delay = h.up_delay;
          down = h.down;
          down_fade = h.down_fade;
          down_delay = h.down_delay;
          followon = h.followon;
          followon_time = h.followon_time;
          rest = sym z i;
        };
        levels = ls;
      }

  pub head_rebuilt : h.used ≡ 1 → edit_all d (head_edits h) (record { head = blank_head (key_of h); levels = ls }) ≡ record { head = h; levels = ls }
  unfolding head_edits blank_head
  head_rebuilt u =
      let a = if_present h.up (Up h.up_fade h.up_delay) in
      let b = if_present h.down (Down h.down_fade h.down_delay) in
      let c = if_present h.followon (Followon h.followon_time) in
      let e = if_present h.link (Link h.link_whole h.link_fraction) in
      edit_append d a (b ++ (c ++ e)) (shaped 0 0 0 0 0 0 0 0 0 0 0)
      ∙ ap (edit_all d (b ++ (c ++ e))) up_part
      ∙ edit_append d b (c ++ e) _
      ∙ ap (edit_all d (c ++ e)) down_part
      ∙ edit_append d c e _
      ∙ ap (edit_all d e) followon_part
      ∙ link_part
      ∙ whole_head u

-- the changes are of the memory's kind, and in range
if_have : (k : Kind) (present : ℕ) (e : Edit) → ((present ≡ 0 → ⊥) → (can_have k e ≡ true) × InTime e) → AllHave k (if_present present e)
if_have k present e f =
    by_eq present 0
    (λ z. subst (AllHave k) (sym (if_absent present e z)) tt)
    (λ ne. subst (AllHave k) (sym (if_present_lem present e ne)) ((f ne).0, (f ne).1, tt))

pub head_have : (k : Kind) (h : Head) → Values k h → AllHave k (head_edits h)
unfolding head_edits can_have
head_have k h v =
    have_append k (if_present h.up (Up h.up_fade h.up_delay)) _
    (if_have k h.up (Up h.up_fade h.up_delay)
    (λ ne. (
      time_can (has_times k) h.up h.up_fade v.up_fade_of ne,
      (time_in (has_times k) h.up h.up_fade v.up_fade_of, time_in (has_times k) h.up h.up_delay v.up_delay_of),
    )))
    (have_append k (if_present h.down (Down h.down_fade h.down_delay)) _
    (if_have k h.down (Down h.down_fade h.down_delay)
    (λ ne. (
      time_can (has_times k) h.down h.down_fade v.down_fade_of ne,
      (time_in (has_times k) h.down h.down_fade v.down_fade_of, time_in (has_times k) h.down h.down_delay v.down_delay_of),
    )))
    (have_append k (if_present h.followon (Followon h.followon_time)) _
    (if_have k h.followon (Followon h.followon_time)
    (λ ne. (
      time_can (has_link k) h.followon h.followon_time v.followon ne,
      time_in (has_link k) h.followon h.followon_time v.followon,
    )))
    (if_have k h.link (Link h.link_whole h.link_fraction)
    (λ ne. (link_can (has_link k) h v.link ne, link_number (has_link k) h v.link ne)))))

pub lit_have : (k : Kind) (ps : List Lit) → AllHave k (lit_edits ps)
unfolding lit_edits can_have
lit_have k [] = tt
lit_have k (p ∷ ps) = (refl, tt, lit_have k ps)

-- ---- the levels: those before a channel are as they should be, those from it on are still zero
levels_from : (d : Desk) (h : Head) (vs p : List ℕ) (c : ℕ) → c ≡ length p + 1
    → edit_all d (lit_edits (lit_from c vs)) (record { head = h; levels = p ++ replicate (length vs) 0 }) ≡ record { head = h; levels = p ++ vs }
unfolding lit_from lit_edits edit_all edit_memory edit_head put edit_levels
levels_from d h [] p c e = refl
levels_from d h (v ∷ vs) p c e =
    let r = lit_from (c + 1) vs in
    let n : ℕ = length vs in
    let l : length (p ++ (v ∷ [])) ≡ length p + 1 = length-append p (v ∷ []) in
    let g : c + 1 ≡ length (p ++ (v ∷ [])) + 1 = omega arith in
    let ih : edit_all d (lit_edits r) (record { head = h; levels = (p ++ (v ∷ [])) ++ replicate n 0 }) ≡ record { head = h; levels = (p ++ (v ∷ [])) ++ vs } =
    levels_from d h vs (p ++ (v ∷ [])) (c + 1) g
    in
    let to : edit_all d (lit_edits r) (record { head = h; levels = p ++ (v ∷ replicate n 0) }) ≡ record { head = h; levels = p ++ (v ∷ vs) } =
    ap (λ (ls : List ℕ). edit_all d (lit_edits r) (record { head = h; levels = ls })) (sym (append_snoc p v (replicate n 0)))
    ∙ ih
    ∙ ap (λ (ls : List ℕ). record { head = h; levels = ls }) (append_snoc p v vs)
    in
    by_eq v 0
    (λ z.
    ap (λ (ps : List Lit). edit_all d (lit_edits ps) (record { head = h; levels = p ++ (0 ∷ replicate n 0) })) (cond-true (eqb v 0) r _ (eq-eqb v 0 z))
    ∙ ap (λ (u : ℕ). edit_all d (lit_edits r) (record { head = h; levels = p ++ (u ∷ replicate n 0) })) (sym z)
    ∙ to)
    (λ ne.
    ap (λ (ps : List Lit). edit_all d (lit_edits ps) (record { head = h; levels = p ++ (0 ∷ replicate n 0) }))
    (cond-false (eqb v 0) r (record { channel = c; level = v } ∷ r) (ne_eqb v 0 ne))
    ∙ ap (λ (ls : List ℕ). edit_all d (lit_edits r) (record { head = h; levels = ls }))
    (level_next d p 0 (replicate n 0) c v e)
    ∙ to)

levels_rebuilt : (d : Desk) (h : Head) (ls : List ℕ) → length ls ≡ levels_length d
    → edit_all d (lit_edits (lit_from 1 ls)) (record { head = h; levels = replicate (levels_length d) 0 }) ≡ record { head = h; levels = ls }
levels_rebuilt d h ls e =
    ap (λ (n : ℕ). edit_all d (lit_edits (lit_from 1 ls)) (record { head = h; levels = replicate n 0 })) (sym e)
    ∙ levels_from d h ls [] 1 refl

-- the channels that are lit are the desk's, and their levels are bytes
lit_from_lem : (d : Desk) (vs : List ℕ) (c : ℕ) → 1 ≤ c → c + length vs ≤ d.channels + 1 → Bytes vs → AllLit d (lit_from c vs)
unfolding lit_from
lit_from_lem d [] c l h b = tt
lit_from_lem d (v ∷ vs) c l h b =
    let r = lit_from (c + 1) vs in
    let x : v < 256 = b 0 in
    let ih : AllLit d r = lit_from_lem d vs (c + 1) (omega arith) (omega arith) (λ i. b (suc i)) in
    by_bool (eqb v 0)
    (λ z. subst (AllLit d) (sym (cond-true (eqb v 0) r (record { channel = c; level = v } ∷ r) z)) ih)
    (λ z.
    subst (AllLit d) (sym (cond-false (eqb v 0) r (record { channel = c; level = v } ∷ r) z))
    ((let w : Within 1 c d.channels = omega arith in w), x, ih))

pub lit_fits : (d : Desk) (ls : List ℕ) → length ls ≡ levels_length d → Bytes ls → AllLit d (lit_from 1 ls)
unfolding levels_length level_width
lit_fits d ls e b = lit_from_lem d ls 1 (omega arith) (omega arith) b

-- ---- both
pub rebuilt : (d : Desk) (k : Kind) (m : Memory) → Values k m.head → HeadFits m.head → m.head.used ≡ 1 → length m.levels ≡ levels_length d
    → edit_all d (memory_edits m) (blank_memory d (key_of m.head)) ≡ m
unfolding memory_edits blank_memory
rebuilt d k m v f u l =
    edit_append d (head_edits m.head) (lit_edits (lit_from 1 m.levels)) (record { head = blank_head (key_of m.head); levels = replicate (levels_length d) 0 })
    ∙ ap (edit_all d (lit_edits (lit_from 1 m.levels))) (head_rebuilt d k m.head v f (replicate (levels_length d) 0) u)
    ∙ levels_rebuilt d m.head m.levels l

pub memory_have : (k : Kind) (m : Memory) → Values k m.head → AllHave k (memory_edits m)
unfolding memory_edits
memory_have k m v = have_append k (head_edits m.head) (lit_edits (lit_from 1 m.levels)) (head_have k m.head v) (lit_have k (lit_from 1 m.levels))
