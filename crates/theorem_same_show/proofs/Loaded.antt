-- The memories of a store read back, one after the other: each is then kept as it was, and what was read before stays. By induction on the
-- slots that are written.
-- Assumes nothing.
use mathlib.Core.Path.{◌≡◌, refl, sym, ap, ◌∙◌, subst}
use mathlib.Core.Bool.{true, cond}
use mathlib.Core.List.{List, [], ◌∷◌}
use mathlib.Core.Logic.{◌⊎◌, inl, inr, ⊎_elim}
use Prim.Native.Nat.{ℕ, ◌+◌, ◌-◌, ◌*◌, ◌<◌, ◌≤◌, min}
use native.Mathlib.Omega.{arith}
use lib.ListN.{length, take, drop, length-take, length-drop}
use borrow.Author.Tests.{eqb-true}
use Rattle.cells.specs.Search.{at}
use Rattle.cells.proofs.Split.{by_bool, cond-true, cond-false}
use Rattle.store_desk.specs.declared.Desk.{Desk}
use Rattle.store_desk.specs.declared.Kind.{Kind}
use Rattle.store_desk.specs.Size.{head_length, levels_length, slot_length, patch_start, store_length}
use Rattle.store_desk.specs.Name.{Name, eq_name, ok_name, first_slot, slots_end}
use Rattle.store_desk.proofs.Name.{eq_name_lem, eq_name_refl, kind_of}
use Rattle.store_head.specs.Pack.{Bytes}
use Rattle.store.specs.Slots.{head_at, levels_at, key_of, find}
use Rattle.store.specs.View.{Kept, absent, kept, memory_at, memory_of}
use Rattle.store.specs.Change.{seat, started}
use Rattle.store.specs.Form.{name_at, values_fit}
use Rattle.store.specs.Memories.{blank_memory}
use Rattle.store.specs.Good.{Ready}
use Rattle.store.proofs.Places.{slots_end_lem, slot_end, levels_part}
use Rattle.store.specs.Order.{in_order}
use Rattle.store.proofs.Find.{head_fits}
use Rattle.store.proofs.Form.{used_name, used_values, found_self, placed_found}
use Rattle.store.proofs.Start.{found_used, kept_memory, absent_at}
use Rattle.store.proofs.Edits.{Values, values_of}
use Rattle.store.proofs.Loss.{bytes_take, bytes_drop}
use Rattle.store.proofs.Ordered.{Among, in_order_used, used_in_order}
use Rattle.load.specs.declared.State.{State}
use Rattle.load.specs.Ask.{name}
use Rattle.load.specs.Step.{opened}
use Rattle.save.specs.Lines.{memory_lines, slot_lines}
use Rattle.theorem_same_show.proofs.Does.{edited_all}
use Rattle.theorem_same_show.proofs.Runs.{Runs, done, runs_append}
use Rattle.theorem_same_show.proofs.Rebuilt.{edit_all, memory_edits, memory_have, rebuilt, lit_fits}
use Rattle.theorem_same_show.proofs.Lines.{memory_runs}
use Rattle.theorem_same_show.proofs.Changed.{Beside, beside_none, beside_next, made_good, made_beside, made_view}
use Rattle.theorem_same_show.proofs.Keys.{Here, here_slot}
use Rattle.theorem_same_show.proofs.Room.{by_found, Under, room}

-- ---- a used slot of a good store
module _ (d : Desk) (s : List ℕ) (r : Ready d s) (k : Kind) (i : ℕ) (h : Here d s k i) where
  abbrev pub own : Name
  own = name k (key_of (head_at d s i))

  own_name : name_at d s i ≡ own
  own_name = λ z. record { kind = kind_of d k i h.from h.below z; key = key_of (head_at d s i) }

  own_ok : ok_name d own ≡ true
  own_ok = subst (λ (n : Name). ok_name d n ≡ true) own_name (used_name d s r.form i (here_slot h) h.used)

  pub own_found : find d s own ≡ at i
  own_found = subst (λ (n : Name). find d s n ≡ at i) own_name (found_self d s r.form i (here_slot h) h.used)

  pub own-kept : memory_of d s own ≡ kept (memory_at d s i)
  own-kept = kept_memory d s own i own_found

  own_values : Values k (head_at d s i)
  own_values =
      values_of k (head_at d s i)
      (subst (λ (c : Kind). values_fit c (head_at d s i) ≡ true) (kind_of d k i h.from h.below) (used_values d s r.form i (here_slot h) h.used))

  levels_length_lem : length (levels_at d s i) ≡ levels_length d
  unfolding slot_length
  levels_length_lem =
      let a : ℕ = i * slot_length d + head_length in
      let e : length (take (levels_length d) (drop a s)) ≡ min (levels_length d) (length (drop a s)) = length-take (levels_length d) (drop a s) in
      let f : length (drop a s) ≡ length s - a = length-drop a s in
      let g : i * slot_length d + slot_length d ≤ patch_start d = slot_end d i (here_slot h) in
      let l : patch_start d ≤ store_length d = slots_end_lem d in
      let m : store_length d ≤ length s = r.long in
      ap length (levels_part d s i) ∙ (let z : length (take (levels_length d) (drop a s)) ≡ levels_length d = omega arith in z)

  levels_bytes : Bytes s → Bytes (levels_at d s i)
  levels_bytes b =
      subst Bytes (sym (levels_part d s i))
      (bytes_take (levels_length d) (drop (i * slot_length d + head_length) s) (bytes_drop (i * slot_length d + head_length) s b))

-- ---- a store on the way: what it keeps is the show's; and one further on
pub record Part (d : Desk) (s t : List ℕ) : Type 0 where
  pub ready : Ready d t
  pub under : Under d s t

pub record Grown (d : Desk) (s t u : List ℕ) : Type 0 where
  pub part : Part d s u
  pub beside : Beside d t u
  pub keeps : (m : Name) → memory_of d t m ≡ memory_of d s m → memory_of d u m ≡ memory_of d s m

pub grown_none : {d : Desk} {s t : List ℕ} → Part d s t → Grown d s t t
grown_none {d} {s} {t} p = record { part = p; beside = beside_none d t; keeps = λ m e. e }

pub grown_next : {d : Desk} {s t u v : List ℕ} → Grown d s t u → Grown d s u v → Grown d s t v
grown_next f g = record { part = g.part; beside = beside_next f.beside g.beside; keeps = λ m e. g.keeps m (f.keeps m e) }

-- ---- one memory
pub record Read (d : Desk) (s : List ℕ) (st : State) (t : List ℕ) (ls : List (List ℕ)) : Type 0 where
  pub state : State
  pub store : List ℕ
  pub runs : Runs d st t ls state store
  pub grown : Grown d s t store

module _ (d : Desk) (s : List ℕ) (r : Ready d s) (b : Bytes s) (k : Kind) where
  module _ (i : ℕ) (h : Here d s k i) (t : List ℕ) (p : Part d s t) where
    abbrev it : Name
    it = own d s r k i h

    abbrev made : List ℕ
    made = edited_all d (started d t it) it (memory_edits (memory_at d s i))

    seat_found : (j : ℕ) × (seat d t it ≡ at j)
    seat_found =
        by_found (seat d t it)
        (λ j e. (j, e))
        (λ e. absurd (room d s t r p.ready p.under it i (own_found d s r k i h) e))

    memory_values : Values k (memory_at d s i).head
    unfolding memory_at
    memory_values = own_values d s r k i h

    memory_whole : edit_all d (memory_edits (memory_at d s i)) (blank_memory d it.key) ≡ memory_at d s i
    unfolding memory_at
    memory_whole =
        rebuilt d k (memory_at d s i) (own_values d s r k i h) (head_fits d s i) (eqb-true (head_at d s i).used 1 h.used) (levels_length_lem d s r k i h)

    made_runs : (st : State) → Runs d st t (memory_lines k (memory_at d s i)) (opened k it.key) made
    unfolding memory_at
    made_runs st =
        memory_runs d r.range k (memory_at d s i) (own_values d s r k i h)
        (lit_fits d (levels_at d s i) (levels_length_lem d s r k i h) (levels_bytes d s r k i h b))
        (own_ok d s r k i h) st t seat_found.0 seat_found.1

    seen : (m : Name) → memory_of d made m ≡ cond (eq_name m it) (memory_of d s it) (memory_of d t m)
    seen m =
        made_view d t p.ready it (own_ok d s r k i h) seat_found.0 seat_found.1 (memory_edits (memory_at d s i)) (memory_have k (memory_at d s i) memory_values) m
        ∙ ap (λ (x : Kept). cond (eq_name m it) x (memory_of d t m)) (ap kept memory_whole ∙ sym (own-kept d s r k i h))

    -- either the memory that is read, as it was, or what was there
    by_seen {ℓ} : (X : Kept → Type ℓ) (m : Name) → X (memory_of d s m) → X (memory_of d t m) → X (memory_of d made m)
    by_seen X m f g =
        by_bool (eq_name m it)
        (λ e. subst X (sym (seen m ∙ cond-true (eq_name m it) _ (memory_of d t m) e ∙ ap (memory_of d s) (sym (eq_name_lem m it e)))) f)
        (λ e. subst X (sym (seen m ∙ cond-false (eq_name m it) _ (memory_of d t m) e)) g)

    made_grown : Grown d s t made
    made_grown =
        record {
          part =
              record {
                ready = made_good d t p.ready it (own_ok d s r k i h) seat_found.0 seat_found.1 (memory_edits (memory_at d s i)) (memory_have k (memory_at d s i) memory_values);
                under = λ m. by_seen (λ x. (x ≡ memory_of d s m) ⊎ (x ≡ absent)) m (inl refl) (p.under m);
              };
          beside = made_beside d t p.ready it (own_ok d s r k i h) seat_found.0 seat_found.1 (memory_edits (memory_at d s i)) (memory_have k (memory_at d s i) memory_values);
          keeps = λ m e. by_seen (λ x. x ≡ memory_of d s m) m refl e;
        }

    made_own : memory_of d made it ≡ memory_of d s it
    made_own = seen it ∙ cond-true (eq_name it it) _ (memory_of d t it) (eq_name_refl it)

  -- ---- the memories in some slots
  pub slots_read : (is : List ℕ) → ((x : ℕ) → Among x is → Here d s k x) → (st : State) (t : List ℕ) → Part d s t
      → (x : Read d s st t (slot_lines d s k is)) × ((i : ℕ) → Among i is → memory_of d x.store (name k (key_of (head_at d s i))) ≡ memory_of d s (name k (key_of (head_at d s i))))
  unfolding slot_lines
  slots_read [] f st t p = (record { state = st; store = t; runs = done; grown = grown_none p }, λ i h. absurd h)
  slots_read (i ∷ is) f st t p =
      let h = f i (inl refl) in
      let g = made_grown i h t p in
      let u = made i h t p in
      let rest = slots_read is (λ x a. f x (inr a)) (opened k (key_of (head_at d s i))) u g.part in
      let x = rest.0 in (
        record { state = x.state; store = x.store; runs = runs_append (made_runs i h t p st) x.runs; grown = grown_next g x.grown },
        λ j a.
            ⊎_elim
            (λ e.
            let n : Name = name k (key_of (head_at d s i)) in
            subst (λ (z : ℕ). memory_of d x.store (name k (key_of (head_at d s z))) ≡ memory_of d s (name k (key_of (head_at d s z)))) (sym e)
            (x.grown.keeps n (made_own i h t p)))
            (λ c. rest.1 j c)
            a,
      )

-- ---- the memories of a kind: all of them are then as they were
module _ (d : Desk) (s : List ℕ) (r : Ready d s) (k : Kind) where
  pub in_order_here : (x : ℕ) → Among x (in_order d s k) → Here d s k x
  in_order_here x g = let w = in_order_used d s k x g in record { from = w.0; below = w.1; used = w.2 }

  -- where a name of the kind is found is in the order, and keeps that name's memory
  pub found_in_order : (m : Name) → m.kind ≡ k → (i : ℕ) → find d s m ≡ at i → Among i (in_order d s k)
  found_in_order m e i g =
      let w = placed_found d s r.form m i g in
      used_in_order d s k i (subst (λ (c : Kind). first_slot d c ≤ i) e w.from) (subst (λ (c : Kind). i < slots_end d c) e w.below) (found_used d s m i g).1

  pub kind_read : Bytes s → (st : State) (t : List ℕ) → Part d s t
      → (x : Read d s st t (slot_lines d s k (in_order d s k))) × ((m : Name) → m.kind ≡ k → memory_of d x.store m ≡ memory_of d s m)
  kind_read b st t p =
      let f = slots_read d s r b k (in_order d s k) in_order_here st t p in
      let x = f.0 in (
        x,
        λ m e.
            by_found (find d s m)
            (λ i g.
            let n : name k (key_of (head_at d s i)) ≡ m = λ z. record { kind = sym e z; key = ((found_used d s m i g).2 z).key } in
            subst (λ (y : Name). memory_of d x.store y ≡ memory_of d s y) n (f.1 i (found_in_order m e i g)))
            (λ g.
            let z : memory_of d s m ≡ absent = absent_at d s m g in
            ⊎_elim (λ q. q) (λ q. q ∙ sym z) (x.grown.part.under m)),
      )
