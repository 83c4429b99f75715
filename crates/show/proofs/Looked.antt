-- What a look-up hands out is what the show keeps under the cue's name: the slot that the search finds is the one that the view reads; and
-- `find` tells the place of that same slot.
-- Assumes nothing.
use Rattle.std.specs.Prelude.{Err, Ok, Option, Result, Some}
use mathlib.Core.Path.{◌≡◌, refl, sym, ap, ◌∙◌, subst}
use mathlib.Core.List.{List}
use Prim.Native.Nat.{ℕ, ◌+◌}
use native.Mathlib.Omega.{arith}
use denote.Ref.{Bor}
use lib.ListN.{get_or}
use Rattle.cells.specs.Search.{Found, at, nowhere}
use Rattle.store_desk.specs.declared.Desk.{Desk}
use Rattle.store_desk.specs.Refusal.{refusal_number, Reply, reply_word, refusal_word}
use Rattle.store_desk.proofs.Reply.{refusal_some, refusal_most, refused_no_reply}
use Rattle.store.specs.Slots.{find}
use Rattle.store.specs.View.{memory_at}
use Rattle.store.specs.Good.{Ready}
use Rattle.store.proofs.Find.{kept-absent}
use Rattle.store.proofs.Start.{absent_at, kept_memory}
use Rattle.show.specs.Calls.{admission_of, cue_name, cue_key, Look, look_at, look_by, look_call, LookPromise, find_reply, placed_at, find_by, find_call, FindPromise}
use Rattle.show.specs.Looked.{LookedShow, FoundPart}
use Rattle.show.proofs.Laws.{away_reply, admitted, let_in}
use Rattle.show.proofs.Refusals.{look_word}
use Rattle.store_desk.specs.declared.Refusal.{Refusal}

module _ (d : Desk) (s : List ℕ) (page whole tenths : ℕ) where
  -- a slot that is found, or none
  at_show : Ready d s → (a : Found) → find d s (cue_name (cue_key page whole tenths)) ≡ a
      → LookedShow d s page whole tenths (look_at d s a).bytes (look_at d s a).word
  unfolding look_at memory_at
  at_show h (at i) e =
      record {
        levels = λ q. record { memory = memory_at d s i; held = kept_memory d s _ i e; same = refl };
        none = (λ q. absurd (omega arith), λ q. absurd (kept-absent (sym (kept_memory d s _ i e) ∙ q.1)));
      }
  at_show h nowhere e =
      record {
        levels = λ q. absurd (omega arith);
        none = (λ q. (h, absent_at d s _ e), λ q. refl);
      }

  by_show : (a : Result Unit Refusal) → a ≡ admission_of d s
      → LookedShow d s page whole tenths (look_by a d s (cue_key page whole tenths)).bytes (look_by a d s (cue_key page whole tenths)).word
  unfolding look_by
  by_show (Ok _) e = at_show (let_in d s e) (find d s (cue_name (cue_key page whole tenths))) refl
  by_show (Err r) e =
      let some = refusal_some r in
      let most = refusal_most r in
      record {
        levels = λ q. absurd (let z : refusal_word r ≡ 0 = q in omega arith);
        none = (
          λ q. absurd (let z : refusal_word r ≡ 255 = q in omega arith),
          λ q. absurd (let z : refusal_number r ≡ 0 = ap (λ (a : Result Unit Refusal). (away_reply a).number) (e ∙ sym (admitted d s q.0)) in omega arith),
        );
      }

pub looked_show : (d : Desk) (s : Bor (List ℕ)) (page whole tenths : ℕ) {r : Bor (List ℕ)} {answer : ℕ}
    → LookPromise d s page whole tenths r answer → LookedShow d s.now page whole tenths r.now answer
unfolding look_call
looked_show d s page whole tenths {r} {answer} e =
    let x = look_call d s.now page whole tenths in
    subst (λ (w : ℕ). LookedShow d s.now page whole tenths r.now w) (sym e.says)
    (subst (λ (b : List ℕ). LookedShow d s.now page whole tenths b x.word) (sym e.bytes)
    (by_show d s.now page whole tenths (admission_of d s.now) refl))

-- ---- find beside it

-- the same place where there is one
Beside : Reply → Look → Type 0
Beside x y = (n : ℕ) → x ≡ find_reply (Ok (Some n)) → n ≡ y.place

at_beside : (d : Desk) (s : List ℕ) (a : Found) → Beside (placed_at d a) (look_at d s a)
unfolding Beside placed_at look_at
at_beside d s (at i) n e = sym (ap (λ (x : Reply). get_or x.told 0 0) e)
at_beside d s nowhere n e = let z : ◌≡◌ {A = ℕ} 255 0 = ap (λ (x : Reply). x.number) e in absurd (omega arith)

by_beside : (d : Desk) (s : List ℕ) (page whole tenths : ℕ) (a : Result Unit Refusal)
    → Beside (find_by a d s (cue_key page whole tenths)) (look_by a d s (cue_key page whole tenths))
unfolding Beside find_by look_by
by_beside d s page whole tenths (Ok _) = at_beside d s (find d s (cue_name (cue_key page whole tenths)))
by_beside d s page whole tenths (Err r) = λ n e. refused_no_reply r e

pub found_part : (d : Desk) (s : Bor (List ℕ)) (page whole tenths : ℕ) {r : Bor (List ℕ)} {answer : ℕ} {a : Result (Option ℕ) Refusal}
    → FindPromise d s.now page whole tenths a → LookPromise d s page whole tenths r answer → FoundPart s r answer a
unfolding Beside find_call look_call
found_part d s page whole tenths {r} {answer} {a} f e =
    let b = by_beside d s.now page whole tenths (admission_of d s.now) in
    record {
      word = ap reply_word f ∙ sym (e.says ∙ look_word d s.now page whole tenths);
      place =
          λ n q. (
            e.block,
            e.offset ∙ ap (λ (k : ℕ). s.ref_ptr.1 + k) (sym (b n (sym f ∙ ap find_reply q))),
          );
    }
