-- `decode` meets its contract: the fields by words are the fields of the table.
use native.Mathlib.Nat.{div-one}
use native.Mathlib.Omega.{arith}
use Prim.Native.Nat.{ℕ, ◌*◌, ◌/◌, ◌%◌, ◌^◌, ◌≤◌, ◌<◌}
use mathlib.Core.Path.{◌≡◌, sym, ap, ◌∙◌}
use lib.ListN.{length}
use Rattle.store_head.specs.Fits.{rest_span}
use Rattle.store_head.specs.Words.{up_rest, down_rest}
use Rattle.store_head.proofs.Laws.{or_sum, word_is, words_decode, words_of}
use Rattle.store_head.proofs.decode.Goals as goal

pub returns : goal.returns
returns c =
    let s = c.args.s.now in
    let a = c.from_be_bytes-a.result in
    let b = c.from_be_bytes-b.result in
    let z = c.from_be_bytes-c.result in
    let l₂ : b < 2 ^ 64 = omega arith in
    let l₃ : z < 2 ^ 64 = omega arith in
    let l : 3 ≤ length s / 8 = omega arith in
    let chunks = c.as_chunks.ensures.front in
    let e₁ : c.field-10.result * 2 ^ up_rest % 2 ^ 32 ≡ a % 2 ^ 1 * 2 ^ up_rest = omega (arith, c.field-10.ensures) in
    let up = or_sum up_rest e₁ c.field-11.ensures (omega arith) (omega arith) in
    let e₂ : c.field-14.result * 2 ^ down_rest % 2 ^ 32 ≡ b % 2 ^ 12 * 2 ^ down_rest = omega (arith, c.field-14.ensures) in
    let down = or_sum down_rest e₂ c.field-15.ensures (omega arith) (omega arith) in
    let rest : c.field-18.result ≡ z % rest_span = c.field-18.ensures ∙ ap (λ (n : ℕ). n % rest_span) (div-one z) in
    (λ i.
    record {
      used = c.field.ensures i;
      page = c.field-2.ensures i;
      whole = c.field-3.ensures i;
      fraction = c.field-4.ensures i;
      link = c.field-5.ensures i;
      link_whole = c.field-6.ensures i;
      link_fraction = c.field-7.ensures i;
      up = c.field-8.ensures i;
      up_fade = c.field-9.ensures i;
      up_delay = up i;
      down = c.field-12.ensures i;
      down_fade = c.field-13.ensures i;
      down_delay = down i;
      followon = c.field-16.ensures i;
      followon_time = c.field-17.ensures i;
      rest = rest i;
    })
    ∙ sym (words_decode a b z l₂ l₃)
    ∙ words_of s (word_is s 0 chunks (omega arith) c.from_be_bytes-a.ensures) (word_is s 1 chunks (omega arith) c.from_be_bytes-b.ensures) (word_is s 2 chunks (omega arith) c.from_be_bytes-c.ensures)
