-- Writing the house small desk's show is never refused as too long (R5), whatever bytes the store holds: its stream has at most 258,847
-- characters.
-- Assumes nothing.
use Rattle.std.specs.Prelude.{Err, Ok, Result}
use mathlib.Core.Path.{◌≡◌, sym, ap, ◌∙◌}
use mathlib.Core.List.{List}
use Prim.Native.Nat.{ℕ, ◌≤◌}
use native.Mathlib.Omega.{arith}
use lib.Dec.{ltb}
use lib.ListN.{length}
use borrow.Author.Tests.{ltb-true}
use Rattle.cells.proofs.Split.{by_test}
use Rattle.store_desk.specs.Size.{house}
use Rattle.save.specs.Lines.{stream_of}
use Rattle.save.proofs.House.{house_most}
use Rattle.show.specs.Calls.{most_bytes, admission_of, WriteCall, write_reply, put_call, write_by, write_call, WritePromise}
use Rattle.show.proofs.Laws.{away_reply, StoreAway, store_away}
use Rattle.store_desk.specs.declared.Refusal.{Refusal}

abbrev NotR5 : WriteCall → Type 0
NotR5 x = x.reply.number ≡ 5 → ⊥

put_short : (stream out : List ℕ) → length stream ≤ most_bytes → NotR5 (put_call stream out)
unfolding put_call
put_short stream out h =
    by_test NotR5 (ltb most_bytes (length stream)) _ _
    (λ e q. let l = ltb-true most_bytes (length stream) e in omega arith)
    (λ e.
    by_test NotR5 (ltb (length out) (length stream)) _ _
    (λ f q. omega arith)
    (λ f q. omega arith))

-- what is tested ahead of the writing is R2, R3 and the store's form
by_short : (a : Result Unit Refusal) → StoreAway (away_reply a) → (s out : List ℕ) → NotR5 (write_by a house s out)
unfolding write_by
by_short (Ok _) m s out = put_short (stream_of house s) out (let a = house_most s in omega arith)
by_short (Err r) m s out = m.fifth

write_short : (s out : List ℕ) → NotR5 (write_call house s out)
unfolding write_call
write_short s out = by_short (admission_of house s) (store_away house s) s out

pub house_no_r5 : (s out : List ℕ) (a : Result ℕ Refusal) {o : List ℕ} → WritePromise house s out a o → (write_reply a).number ≡ 5 → ⊥
house_no_r5 s out a e f = write_short s out (ap (λ (x : WriteCall). x.reply.number) (sym e) ∙ f)
