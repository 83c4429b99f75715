-- A delimiter as the code tests it, by its place among the bits of one number; computed at all 256 characters.
-- Assumes nothing.
use mathlib.Core.Path.{◌≡◌, refl, sym, ◌∙◌}
use mathlib.Core.Bool.{Bool, false, cond}
use Prim.Native.Nat.{ℕ, ◌-◌, ◌/◌, ◌%◌, ◌^◌, ◌≤◌, ◌<◌}
use lib.Dec.{eqb, ltb}
use borrow.Author.Tests.{lt-ltb, le-ltb}
use Rattle.cells.specs.Table.{tab}
use Rattle.cells.proofs.Table.{tab_same}
use Rattle.cells.proofs.Split.{cond-true, cond-false}
use Rattle.text_records.specs.Cleaning.{has}
use Rattle.text_fields.specs.Words.{is_delimiter}

abbrev bit : ℕ → ℕ
bit c = 52917604867637249 / 2 ^ (c - 9) % 2

abbrev tested : ℕ → Bool
tested c = cond (ltb c 9) false (cond (ltb 64 c) false (eqb (bit c) 1))

tested_is : (c : ℕ) → c < 256 → tested c ≡ is_delimiter c
unfolding tab is_delimiter has
tested_is c h = tab_same tested is_delimiter 256 c false refl h

module _ (c : ℕ) (h : c < 256) where
  pub delimiter_low : c < 9 → false ≡ is_delimiter c
  delimiter_low l = sym (cond-true (ltb c 9) _ _ (lt-ltb c 9 l)) ∙ tested_is c h

  pub delimiter_past : 9 ≤ c → 64 < c → false ≡ is_delimiter c
  delimiter_past l p =
      sym (cond-false (ltb c 9) _ _ (le-ltb c 9 l) ∙ cond-true (ltb 64 c) _ _ (lt-ltb 64 c p))
      ∙ tested_is c h

  pub delimiter_bit : 9 ≤ c → c ≤ 64 → eqb (bit c) 1 ≡ is_delimiter c
  delimiter_bit l p =
      sym (cond-false (ltb c 9) _ _ (le-ltb c 9 l) ∙ cond-false (ltb 64 c) _ _ (le-ltb 64 c p))
      ∙ tested_is c h
