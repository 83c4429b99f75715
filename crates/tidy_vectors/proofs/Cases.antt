-- A session in the file, step by step as the code finds it; its parts lie within the file, and the next begins behind it. By the definitions and
-- the bounds of records and fields.
-- Assumes nothing.
use Rattle.std.specs.Prelude.{None, Option, Some}
use mathlib.Core.Path.{◌≡◌, refl, sym, ap, ◌∙◌, subst}
use mathlib.Core.List.{List}
use Prim.Native.Nat.{ℕ, ◌+◌, ◌-◌, ◌≤◌, ◌<◌, min}
use native.Mathlib.Omega.{arith}
use lib.ListN.{length, take, drop}
use Rattle.text_records.specs.Stream.{record_end}
use Rattle.text_records.proofs.Stream.{end_from_lem, end_within}
use Rattle.text_fields.specs.declared.Field.{Field}
use Rattle.text_fields.specs.Places.{field_at, end_at, word_in}
use Rattle.value.specs.Integer.{integer_of}
use Rattle.tidy_vectors.specs.declared.Case.{Case}
use Rattle.tidy_vectors.specs.Case.{length_by, length_given, case_of, case_at}

-- ---- the length
module _ (line : List ℕ) {f g : Field} {x : List ℕ} {i : Option ℕ} (a : f ≡ field_at line 0) (b : g ≡ field_at line f.end)
    (c : x ≡ (word_in line g).chars) (e : i ≡ integer_of x) where
  length_by_lem : length_by i ≡ length_given line
  unfolding length_given
  length_by_lem =
      let h : g ≡ field_at line (end_at line 0) = b ∙ ap (λ (k : Field). field_at line k.end) a in
      ap length_by (e ∙ ap integer_of (c ∙ ap (λ (k : Field). (word_in line k).chars) h))

  pub length_none : i ≡ None → 0 ≡ length_given line
  unfolding length_by
  length_none h = sym (ap length_by h) ∙ length_by_lem

  pub length_value : {n r : ℕ} → i ≡ Some n → r ≡ n → r ≡ length_given line
  unfolding length_by
  length_value h k = k ∙ sym (ap length_by h) ∙ length_by_lem

-- ---- the session
pub case_is : (s : List ℕ) (at : ℕ) {line body n count : ℕ} → line ≡ record_end s at → body ≡ min (line + 1) (length s)
    → n ≡ length_given (take (line - at) (drop at s)) → count ≡ min n (length s - body)
    → ◌≡◌ {A = Case} (record { line = line; body = body; end = body + count }) (case_at s at)
unfolding case_at case_of
case_is s at {line} {body} {n} {count} a b c e =
    ap (λ (k : ℕ). record { line = line; body = body; end = body + k }) (e ∙ ap (λ (k : ℕ). min k (length s - body)) c)
    ∙ ap (λ (k : ℕ). case_of s line k (length_given (take (line - at) (drop at s)))) b
    ∙ ap (λ (k : ℕ). case_of s k (min (k + 1) (length s)) (length_given (take (k - at) (drop at s)))) a

-- where it lies
pub record Lies (s : List ℕ) (at : ℕ) (c : Case) : Type 0 where
  pub from : at ≤ c.line
  pub line : c.line ≤ length s
  pub body : c.body ≤ c.end
  pub within : c.end ≤ length s
  pub onward : at < c.end

of_lies : (s : List ℕ) (at line n : ℕ) → at ≤ line → line ≤ length s → at < length s → Lies s at (case_of s line (min (line + 1) (length s)) n)
unfolding case_of
of_lies s at line n h g l =
    record { from = h; line = g; body = omega arith; within = omega arith; onward = omega arith }

pub lies : (s : List ℕ) (at : ℕ) {c : Case} → at < length s → c ≡ case_at s at → Lies s at c
unfolding case_at
lies s at h e =
    subst (Lies s at) (sym e)
    (of_lies s at (record_end s at) (length_given (take (record_end s at - at) (drop at s))) (end_from_lem s at) (end_within s at (omega arith)) h)

-- where the next begins
pub ends : (s : List ℕ) (at : ℕ) {r : ℕ} → at < length s → r ≡ (case_at s at).end → (at < r) × (r ≤ length s)
ends s at {r} h e = let l = lies s at h refl in (omega arith, omega arith)
