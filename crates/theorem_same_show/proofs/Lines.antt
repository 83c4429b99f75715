-- The lines of a memory, run: the primary starts it, and the others make its changes. By the steps of the lines; CHAN's by induction on
-- their number.
-- Assumes nothing.
use mathlib.Core.Path.{◌≡◌, refl, sym, ap, ◌∙◌, subst}
use mathlib.Core.Bool.{true, cond}
use mathlib.Core.List.{List, [], ◌∷◌, ◌++◌}
use Prim.Native.Nat.{ℕ, zero, suc, ◌-◌, ◌≤◌, min}
use native.Mathlib.Nat.{le_refl}
use native.Mathlib.Omega.{arith}
use lib.Dec.{eqb}
use lib.ListN.{length, take, drop, length-take, length-drop, take-append-drop}
use borrow.Author.Tests.{eq-eqb, ne_eqb}
use Rattle.cells.specs.Search.{at}
use Rattle.cells.proofs.Split.{by_eq}
use Rattle.store_desk.specs.declared.Desk.{Desk}
use Rattle.store_desk.specs.declared.Key.{Key}
use Rattle.store_desk.specs.declared.Kind.{Kind}
use Rattle.store_desk.specs.Size.{InRange}
use Rattle.store_desk.specs.Name.{Name, ok_name}
use Rattle.store_head.specs.declared.Head.{Head}
use Rattle.store.specs.declared.Edit.{Edit}
use Rattle.store.specs.declared.Edit.TheVariants.{Up, Down, Followon, Link, Level}
use Rattle.store.specs.Slots.{key_of}
use Rattle.store.specs.View.{Memory}
use Rattle.store.specs.Change.{seat, started, edited}
use Rattle.store.specs.Form.{has_times, has_link}
use Rattle.store.proofs.Edits.{Values, time_in}
use Rattle.load.specs.declared.State.{State}
use Rattle.load.specs.Ask.{name}
use Rattle.load.specs.Step.{opened}
use Rattle.save_lines.specs.Line.{time_line, link_line, head_lines, Lit, lit_from, most_pairs, chan_lines_in, chan_lines}
use Rattle.save.specs.Lines.{memory_lines}
use Rattle.theorem_same_show.proofs.Worded.{AllLit}
use Rattle.theorem_same_show.proofs.Does.{Does, primary_does, up_does, down_does, followon_does, link_does, chan_does, edited_all, lit_edits}
use Rattle.theorem_same_show.proofs.Runs.{Runs, done, next, runs_append, runs_one}
use Rattle.theorem_same_show.proofs.Rebuilt.{if_present, head_edits, memory_edits, time_can, link_can, link_number}

-- ---- changes in two parts
edited_append : (d : Desk) (n : Name) (a b : List Edit) (t : List ℕ) → edited_all d (edited_all d t n a) n b ≡ edited_all d t n (a ++ b)
unfolding edited_all
edited_append d n [] b t = refl
edited_append d n (e ∷ a) b t = edited_append d n a b (edited d t n e)

lit_append : (a b : List Lit) → lit_edits (a ++ b) ≡ lit_edits a ++ lit_edits b
unfolding lit_edits
lit_append [] b = refl
lit_append (p ∷ a) b = ap (λ (es : List Edit). Level p.channel p.level ∷ es) (lit_append a b)

lit_take : (d : Desk) (n : ℕ) (ps : List Lit) → AllLit d ps → AllLit d (take n ps)
lit_take d zero ps a = tt
lit_take d (suc n) [] a = tt
lit_take d (suc n) (p ∷ ps) a = (a.0, a.1, lit_take d n ps a.2)

lit_drop : (d : Desk) (n : ℕ) (ps : List Lit) → AllLit d ps → AllLit d (drop n ps)
lit_drop d zero ps a = a
lit_drop d (suc n) [] a = tt
lit_drop d (suc n) (p ∷ ps) a = lit_drop d n ps a.2

module _ (d : Desk) (k : Kind) (y : Key) where
  abbrev now : State
  now = opened k y

  abbrev it : Name
  it = name k y

  -- a run that makes some changes, and one after it
  and_then : {t : List ℕ} {a b : List (List ℕ)} (es fs : List Edit) → Runs d now t a now (edited_all d t it es)
      → ((u : List ℕ) → Runs d now u b now (edited_all d u it fs)) → Runs d now t (a ++ b) now (edited_all d t it (es ++ fs))
  and_then {t} {a} {b} es fs f g =
      subst (Runs d now t (a ++ b) now) (edited_append d it es fs t) (runs_append f (g (edited_all d t it es)))

  -- a line that stands where something is present
  if_runs : (present : ℕ) (e : Edit) (l t : List ℕ) → ((present ≡ 0 → ⊥) → Does d now t l now (edited d t it e))
      → Runs d now t (cond (eqb present 0) [] (l ∷ [])) now (edited_all d t it (if_present present e))
  unfolding if_present edited_all
  if_runs present e l t f =
      by_eq present 0
      (λ z. rw (eq-eqb present 0 z) done)
      (λ ne. rw (ne_eqb present 0 ne) (runs_one (f ne)))

  head_runs : (h : Head) → Values k h → (t : List ℕ) → Runs d now t (head_lines h) now (edited_all d t it (head_edits h))
  unfolding head_lines head_edits time_line link_line
  head_runs h v t =
      let a = if_present h.up (Up h.up_fade h.up_delay) in
      let b = if_present h.down (Down h.down_fade h.down_delay) in
      let c = if_present h.followon (Followon h.followon_time) in
      let e = if_present h.link (Link h.link_whole h.link_fraction) in
      and_then a (b ++ (c ++ e))
      (if_runs h.up (Up h.up_fade h.up_delay) _ t
      (λ ne.
      up_does d k y t h.up_fade h.up_delay
      (time_in (has_times k) h.up h.up_fade v.up_fade_of)
      (time_in (has_times k) h.up h.up_delay v.up_delay_of)
      (time_can (has_times k) h.up h.up_fade v.up_fade_of ne)))
      (λ t₁.
      and_then b (c ++ e)
      (if_runs h.down (Down h.down_fade h.down_delay) _ t₁
      (λ ne.
      down_does d k y t₁ h.down_fade h.down_delay
      (time_in (has_times k) h.down h.down_fade v.down_fade_of)
      (time_in (has_times k) h.down h.down_delay v.down_delay_of)
      (time_can (has_times k) h.down h.down_fade v.down_fade_of ne)))
      (λ t₂.
      and_then c e
      (if_runs h.followon (Followon h.followon_time) _ t₂
      (λ ne.
      followon_does d k y t₂ (time_can (has_link k) h.followon h.followon_time v.followon ne) h.followon_time
      (time_in (has_link k) h.followon h.followon_time v.followon)))
      (λ t₃.
      if_runs h.link (Link h.link_whole h.link_fraction) _ t₃
      (λ ne.
      link_does d k y t₃ (link_can (has_link k) h v.link ne) h.link_whole h.link_fraction (link_number (has_link k) h v.link ne)))))

  module _ (r : InRange d) where
    chan_runs : (n : ℕ) (ps : List Lit) → AllLit d ps → length ps ≤ n → (t : List ℕ) → Runs d now t (chan_lines_in n ps) now (edited_all d t it (lit_edits ps))
    unfolding chan_lines_in lit_edits edited_all
    chan_runs zero [] a h t = done
    chan_runs zero (p ∷ ps) a h t = absurd (omega (arith, h))
    chan_runs (suc n) [] a h t = done
    chan_runs (suc n) (p ∷ ps) a h t =
        let qs : List Lit = p ∷ ps in
        let few : length (take most_pairs qs) ≡ min most_pairs (length qs) = length-take most_pairs qs in
        let left : length (drop most_pairs qs) ≡ length qs - most_pairs = length-drop most_pairs qs in
        let f : length (take most_pairs qs) ≤ 8 = omega arith in
        let g : length (drop most_pairs qs) ≤ n = omega arith in
        let u : List ℕ = edited_all d t it (lit_edits (take most_pairs qs)) in
        subst (Runs d now t (chan_lines_in (suc n) qs) now)
        (edited_append d it (lit_edits (take most_pairs qs)) (lit_edits (drop most_pairs qs)) t
        ∙ ap (edited_all d t it) (sym (lit_append (take most_pairs qs) (drop most_pairs qs)) ∙ ap lit_edits (take-append-drop most_pairs qs)))
        (next (chan_does d k y t r (take most_pairs qs) (lit_take d most_pairs qs a) f)
        (chan_runs n (drop most_pairs qs) (lit_drop d most_pairs qs a) g u))

-- ---- a memory
pub memory_runs : (d : Desk) → InRange d → (k : Kind) (m : Memory) → Values k m.head → AllLit d (lit_from 1 m.levels)
    → ok_name d (name k (key_of m.head)) ≡ true → (s : State) (t : List ℕ) (i : ℕ) → seat d t (name k (key_of m.head)) ≡ at i
    → Runs d s t (memory_lines k m) (opened k (key_of m.head))
    (edited_all d (started d t (name k (key_of m.head))) (name k (key_of m.head)) (memory_edits m))
unfolding memory_lines memory_edits chan_lines
memory_runs d r k m v a o s t i e =
    let y : Key = key_of m.head in
    let ps : List Lit = lit_from 1 m.levels in
    next (primary_does d r k y o s t i e)
    (and_then d k y (head_edits m.head) (lit_edits ps) (head_runs d k y m.head v (started d t (name k y)))
    (λ u. chan_runs d k y r (length ps) ps a (le_refl (length ps)) u))
