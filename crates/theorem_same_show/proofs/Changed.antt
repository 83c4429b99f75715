-- What a memory's lines do to a store, seen from outside: the memory is kept under its name, and every other memory, the patch and the bytes
-- past the needed length are as before. By induction on the changes.
-- Assumes nothing.
use mathlib.Core.Path.{◌≡◌, refl, sym, ap, ◌∙◌}
use mathlib.Core.Bool.{true, cond}
use mathlib.Core.List.{List, [], ◌∷◌}
use Prim.Native.Nat.{ℕ}
use lib.ListN.{length, drop}
use Rattle.cells.specs.Search.{at}
use Rattle.cells.proofs.Split.{by_bool, cond-true, cond-false}
use Rattle.store_desk.specs.declared.Desk.{Desk}
use Rattle.store_desk.specs.Size.{store_length}
use Rattle.store_desk.specs.Name.{Name, eq_name, ok_name}
use Rattle.store_desk.proofs.Name.{eq_name_lem, eq_name_refl}
use Rattle.store.specs.declared.Edit.{Edit}
use Rattle.store.specs.View.{Memory, Kept, absent, kept, memory_of, patched_to}
use Rattle.store.specs.Change.{seat, started, edited}
use Rattle.store.specs.Memories.{blank_memory, edit_memory, map_kept}
use Rattle.store.specs.Good.{Ready}
use Rattle.store.proofs.Start.{start_view, start_good, start_patch, start_tail, start_length}
use Rattle.store.proofs.Edits.{edit_view, edit_good, edit_patch, edit_tail, edited-length, in_time_fits}
use Rattle.store.proofs.Patches.{same_patch}
use Rattle.theorem_same_show.proofs.Does.{edited_all}
use Rattle.theorem_same_show.proofs.Rebuilt.{edit_all, AllHave}

-- ---- what stays: the patch, the length, the bytes past the needed length
pub record Beside (d : Desk) (t u : List ℕ) : Type 0 where
  pub patch : (page dimmer : ℕ) → patched_to d u page dimmer ≡ patched_to d t page dimmer
  pub size : length u ≡ length t
  pub tail : drop (store_length d) u ≡ drop (store_length d) t

pub beside_none : (d : Desk) (t : List ℕ) → Beside d t t
beside_none d t = record { patch = λ p q. refl; size = refl; tail = refl }

pub beside_next : {d : Desk} {t u v : List ℕ} → Beside d t u → Beside d u v → Beside d t v
beside_next f g = record { patch = λ p q. g.patch p q ∙ f.patch p q; size = g.size ∙ f.size; tail = g.tail ∙ f.tail }

-- ---- changes
module _ (d : Desk) (n : Name) where
  pub edits_good : (es : List Edit) (t : List ℕ) → Ready d t → AllHave n.kind es → Ready d (edited_all d t n es)
  unfolding edited_all
  edits_good [] t r a = r
  edits_good (e ∷ es) t r a = edits_good es (edited d t n e) (edit_good d t r n e a.0 a.1) a.2

  edits_beside : (es : List Edit) (t : List ℕ) → Ready d t → AllHave n.kind es → Beside d t (edited_all d t n es)
  unfolding edited_all
  edits_beside [] t r a = beside_none d t
  edits_beside (e ∷ es) t r a =
      let u = edited d t n e in
      let f = in_time_fits e a.1 in
      beside_next {u = u}
      (record {
        patch = same_patch d t u (edit_patch d t r n e f);
        size = edited-length d t r.long n e f;
        tail = edit_tail d t r n e f;
      })
      (edits_beside es u (edit_good d t r n e a.0 a.1) a.2)

  map_twice : (f g : Memory → Memory) (x : Kept) → map_kept g (map_kept f x) ≡ map_kept (λ m. g (f m)) x
  unfolding map_kept
  map_twice f g absent = refl
  map_twice f g (kept m) = refl

  map_none : (x : Kept) → x ≡ map_kept (edit_all d []) x
  unfolding map_kept edit_all
  map_none absent = refl
  map_none (kept m) = refl

  edits_view : (es : List Edit) (t : List ℕ) → Ready d t → AllHave n.kind es → (m : Name)
      → memory_of d (edited_all d t n es) m ≡ cond (eq_name m n) (map_kept (edit_all d es) (memory_of d t n)) (memory_of d t m)
  unfolding edited_all edit_all
  edits_view [] t r a m =
      by_bool (eq_name m n)
      (λ b. ap (memory_of d t) (eq_name_lem m n b) ∙ map_none (memory_of d t n) ∙ sym (cond-true (eq_name m n) _ (memory_of d t m) b))
      (λ b. sym (cond-false (eq_name m n) _ (memory_of d t m) b))
  edits_view (e ∷ es) t r a m =
      let u = edited d t n e in
      let f = in_time_fits e a.1 in
      let own : memory_of d u n ≡ map_kept (edit_memory d e) (memory_of d t n) =
      edit_view d t r n e f n ∙ cond-true (eq_name n n) _ (memory_of d t n) (eq_name_refl n)
      in
      let ih : memory_of d (edited_all d u n es) m ≡ cond (eq_name m n) (map_kept (edit_all d es) (memory_of d u n)) (memory_of d u m) =
      edits_view es u (edit_good d t r n e a.0 a.1) a.2 m
      in
      ih
      ∙ by_bool (eq_name m n)
      (λ b.
      cond-true (eq_name m n) _ (memory_of d u m) b
      ∙ ap (map_kept (edit_all d es)) own
      ∙ map_twice (edit_memory d e) (edit_all d es) (memory_of d t n)
      ∙ sym (cond-true (eq_name m n) _ (memory_of d t m) b))
      (λ b.
      cond-false (eq_name m n) _ (memory_of d u m) b
      ∙ edit_view d t r n e f m
      ∙ cond-false (eq_name m n) _ (memory_of d t m) b
      ∙ sym (cond-false (eq_name m n) _ (memory_of d t m) b))

-- ---- a memory started, and its changes made
module _ (d : Desk) (t : List ℕ) (r : Ready d t) (n : Name) (o : ok_name d n ≡ true) (i : ℕ) (e : seat d t n ≡ at i) (es : List Edit) (a : AllHave n.kind es) where
  abbrev after : List ℕ
  after = edited_all d (started d t n) n es

  pub made_good : Ready d after
  made_good = edits_good d n es (started d t n) (start_good d t r n o) a

  pub made_beside : Beside d t after
  made_beside =
      beside_next {u = started d t n}
      (record {
        patch = same_patch d t (started d t n) (start_patch d t r n o);
        size = start_length d t r.long n o;
        tail = start_tail d t r n o;
      })
      (edits_beside d n es (started d t n) (start_good d t r n o) a)

  pub made_view : (m : Name) → memory_of d after m ≡ cond (eq_name m n) (kept (edit_all d es (blank_memory d n.key))) (memory_of d t m)
  unfolding map_kept
  made_view m =
      let own : memory_of d (started d t n) n ≡ kept (blank_memory d n.key) =
      start_view d t r n o i e n ∙ cond-true (eq_name n n) _ (memory_of d t n) (eq_name_refl n)
      in
      edits_view d n es (started d t n) (start_good d t r n o) a m
      ∙ by_bool (eq_name m n)
      (λ b.
      cond-true (eq_name m n) _ (memory_of d (started d t n) m) b
      ∙ ap (map_kept (edit_all d es)) own
      ∙ sym (cond-true (eq_name m n) _ (memory_of d t m) b))
      (λ b.
      cond-false (eq_name m n) _ (memory_of d (started d t n) m) b
      ∙ start_view d t r n o i e m
      ∙ cond-false (eq_name m n) _ (memory_of d t m) b
      ∙ sym (cond-false (eq_name m n) _ (memory_of d t m) b))
