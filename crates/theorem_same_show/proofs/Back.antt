-- A written stream read into any store: IDENT and CLEAR ALL, the patch, the memories kind by kind, ENDDATA. Each line is obeyed, and at the end
-- the store holds the same show.
-- Assumes nothing.
use mathlib.Core.Path.{◌≡◌, refl, sym, ap, ◌∙◌}
use mathlib.Core.List.{List, [], ◌∷◌, ◌++◌, append_assoc}
use mathlib.Core.Logic.{inr}
use Prim.Native.Nat.{ℕ, suc, ◌+◌}
use native.Mathlib.Omega.{arith}
use lib.ListN.{length, drop, length-append}
use Rattle.cells.specs.Text.{bytes}
use Rattle.store_desk.specs.declared.Desk.{Desk}
use Rattle.store_desk.specs.declared.Kind.{Kind}
use Rattle.store_desk.specs.declared.Kind.TheVariants.{Cue, Group, Sub}
use Rattle.store_desk.specs.Size.{entries_of, store_length}
use Rattle.store_desk.specs.Name.{Name}
use Rattle.store_desk.proofs.Name.{entry_inside}
use Rattle.store_head.specs.Pack.{Bytes}
use Rattle.text_records.specs.Stream.{records_of}
use Rattle.store.specs.View.{memory_of}
use Rattle.store.specs.Good.{Ready}
use Rattle.load.specs.declared.State.{State}
use Rattle.store.specs.Change.{every_page}
use Rattle.load.specs.Ask.{all_wipes}
use Rattle.load.specs.Step.{nothing_open, wiped}
use Rattle.load.specs.Run.{run_from, load_of}
use Rattle.save_lines.specs.Line.{joined}
use Rattle.save.specs.Lines.{patch_lines, kind_lines, lines_of, stream_of}
use Rattle.theorem_same_show.specs.Show.{SameShow}
use Rattle.theorem_same_show.proofs.Fair.{records_joined}
use Rattle.theorem_same_show.proofs.Runs.{Runs, next, runs_append, runs_fair, runs_end, ident_does, clear_does, obeyed_run}
use Rattle.theorem_same_show.proofs.Loaded.{Part, Grown, grown_next, Read, kind_read}
use Rattle.theorem_same_show.proofs.Patching.{Patched, patch_read}
use Rattle.theorem_same_show.proofs.Cleared.{clear_read}

-- the lines but ENDDATA
abbrev pub lines : Desk → List ℕ → List (List ℕ)
lines d s =
    bytes "IDENT 3:0"
    ∷ (bytes "CLEAR ALL" ∷ (patch_lines d s ++ (kind_lines d s Cue ++ (kind_lines d s Group ++ kind_lines d s Sub))))

pub lines_end : (d : Desk) (s : List ℕ) → lines_of d s ≡ lines d s ++ (bytes "ENDDATA" ∷ [])
unfolding lines_of
lines_end d s =
    let a = patch_lines d s in
    let b = kind_lines d s Cue in
    let c = kind_lines d s Group in
    let e = kind_lines d s Sub in
    let z : List (List ℕ) = bytes "ENDDATA" ∷ [] in
    ap (λ (ls : List (List ℕ)). bytes "IDENT 3:0" ∷ (bytes "CLEAR ALL" ∷ ls))
    (sym
    (append_assoc a (b ++ (c ++ e)) z
    ∙ ap (λ (ls : List (List ℕ)). a ++ ls) (append_assoc b (c ++ e) z ∙ ap (λ (ls : List (List ℕ)). b ++ ls) (append_assoc c e z))))

pub lines_count : (d : Desk) (s : List ℕ) → length (lines_of d s) ≡ suc (length (lines d s))
lines_count d s =
    ap length (lines_end d s) ∙ length-append (lines d s) (bytes "ENDDATA" ∷ [])
    ∙ (let n : ℕ = length (lines d s) in let z : n + 1 ≡ suc n = omega arith in z)

-- what a run of them leaves
pub record Back (d : Desk) (s t : List ℕ) : Type 0 where
  pub state : State
  pub store : List ℕ
  pub runs : Runs d nothing_open t (lines d s) state store
  pub ready : Ready d store
  pub show : SameShow d s store
  pub size : length store ≡ length t
  pub tail : drop (store_length d) store ≡ drop (store_length d) t

module _ (d : Desk) (s t : List ℕ) (rs : Ready d s) (b : Bytes s) (rt : Ready d t) where
  patch : Patched d s t nothing_open (wiped d (all_wipes d every_page) t) (patch_lines d s) (entries_of d)
  patch = patch_read d s rs t nothing_open (wiped d (all_wipes d every_page) t) (clear_read d t rt s)

  abbrev t₀ : List ℕ
  t₀ = patch.store

  part : Part d s t₀
  part = record { ready = patch.patching.ready; under = λ m. inr (patch.patching.bare m) }

  abbrev Kinds : Kind → State → List ℕ → Type 0
  Kinds k st u = (x : Read d s st u (kind_lines d s k)) × ((m : Name) → m.kind ≡ k → memory_of d x.store m ≡ memory_of d s m)

  cues : Kinds Cue nothing_open t₀
  cues = kind_read d s rs Cue b nothing_open t₀ part

  groups : Kinds Group cues.0.state cues.0.store
  groups = kind_read d s rs Group b cues.0.state cues.0.store cues.0.grown.part

  subs : Kinds Sub groups.0.state groups.0.store
  subs = kind_read d s rs Sub b groups.0.state groups.0.store groups.0.grown.part

  abbrev last : List ℕ
  last = subs.0.store

  all_grown : Grown d s t₀ last
  all_grown = grown_next {u = groups.0.store} (grown_next {u = cues.0.store} cues.0.grown groups.0.grown) subs.0.grown

  memories_by_lem : (m : Name) (k : Kind) → m.kind ≡ k → memory_of d last m ≡ memory_of d s m
  memories_by_lem m Cue e = subs.0.grown.keeps m (groups.0.grown.keeps m (cues.1 m e))
  memories_by_lem m Group e = subs.0.grown.keeps m (groups.1 m e)
  memories_by_lem m Sub e = subs.1 m e

  pub back : Back d s t
  back =
      record {
        state = subs.0.state;
        store = last;
        runs =
            next (ident_does d nothing_open t)
            (next (clear_does d t)
            (runs_append patch.runs (runs_append cues.0.runs (runs_append groups.0.runs subs.0.runs))));
        ready = all_grown.part.ready;
        show =
            record {
              memories = λ m. memories_by_lem m m.kind refl;
              patch = λ p q a c. all_grown.beside.patch p q ∙ patch.patching.before p q a c (entry_inside d p q a c);
            };
        size = all_grown.beside.size ∙ patch.patching.size;
        tail = all_grown.beside.tail ∙ patch.patching.tail;
      }

  -- and so of the stream
  pub load_back : load_of d t (stream_of d s) ≡ obeyed_run (length (lines d s)) back.state back.store
  unfolding load_of stream_of
  load_back =
      let ls : List (List ℕ) = lines d s ++ (bytes "ENDDATA" ∷ []) in
      ap (λ (x : List (List ℕ)). run_from d 0 nothing_open t (records_of (joined x))) (lines_end d s)
      ∙ ap (run_from d 0 nothing_open t) (records_joined ls (runs_fair back.runs))
      ∙ runs_end back.runs 0
