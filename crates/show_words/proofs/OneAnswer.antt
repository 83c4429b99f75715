-- No second answer fits the promise of a text, of the answer itself and of the output; it is refused with R6 exactly where the output is too
-- short, and then the output is as it was.
-- Assumes nothing.
use Rattle.std.specs.Prelude.{Result}
use mathlib.Core.Path.{◌≡◌, refl, sym, ap, ◌∙◌, subst}
use mathlib.Core.List.{List}
use mathlib.Core.Logic.{inl, inr}
use Prim.Native.Nat.{ℕ, ◌≤◌}
use native.Mathlib.Omega.{arith}
use lib.Dec.{ltb}
use lib.ListN.{length}
use borrow.Author.Tests.{ltb-true, ltb-false, le-ltb}
use Rattle.cells.proofs.Split.{by_test, cond-false}
use Rattle.show.specs.Calls.{most_bytes, WriteCall, write_reply, put_call}
use Rattle.show.proofs.OneAnswer.{put_kept, write_apart}
use Rattle.show.proofs.Refusals.{First, told, apart, other}
use Rattle.show_words.specs.Words.{TextPromise, TextRefused, short}
use Rattle.store_desk.specs.declared.Refusal.{Refusal}

pub one_text : (text out : List ℕ) {a b : Result ℕ Refusal} {o p : List ℕ} → TextPromise text out a o → TextPromise text out b p → (a ≡ b) × (o ≡ p)
one_text text out {a} {b} e f =
    let g = e ∙ sym f in
    (write_apart a b (ap (λ (y : WriteCall). y.reply) g), ap (λ (y : WriteCall). y.out) g)

pub text_lines : (text out : List ℕ) → length text ≤ most_bytes → TextRefused text out (put_call text out).reply.number
unfolding apart other First put_call
text_lines text out h =
    subst (λ (x : WriteCall). TextRefused text out x.reply.number) (sym (cond-false (ltb most_bytes (length text)) _ _ (le-ltb _ _ h)))
    (told _ _ refl
    (by_test (λ (x : WriteCall). First (short text out) x.reply.number) (ltb (length out) (length text)) _ _
    (λ f. inl (ltb-true (length out) (length text) f, refl))
    (λ f. let k = ltb-false (length out) (length text) f in inr (λ w. omega arith, refl))))

pub text_refused : (text out : List ℕ) (a : Result ℕ Refusal) {o : List ℕ} → length text ≤ most_bytes → TextPromise text out a o
    → TextRefused text out (write_reply a).number
text_refused text out a h e = subst (TextRefused text out) (sym (ap (λ (y : WriteCall). y.reply.number) e)) (text_lines text out h)

pub untouched_text : (text out : List ℕ) (a : Result ℕ Refusal) {o : List ℕ} → TextPromise text out a o → ((write_reply a).number ≡ 0 → ⊥) → o ≡ out
untouched_text text out a e h =
    ap (λ (y : WriteCall). y.out) e ∙ (put_kept text out).same (λ z. h (ap (λ (y : WriteCall). y.reply.number) e ∙ z))
