-- Which readers are turned away, with which number (paper 01, "Calls turned away"): the lines of the paper's table that each tests, in their
-- order, and then what the desk lacks. The promises of `Calls` meet them (laws `memories_refused`, `head_refused`, `levels_refused`,
-- `patch_refused`, and of the place `memories_place`).
-- Assumes nothing.
use Rattle.std.specs.Prelude.{List, [], ◌∷◌, ℕ, ◌<◌}
use Rattle.store_desk.specs.declared.Desk.{Desk}
use Rattle.store_desk.specs.Size.{Within, slots_of}
use Rattle.show.specs.Calls.{not_kept_word}
use Rattle.show.specs.Refusals.{Line, line, Told, r2, r3, r4a, r4b, r4c}

-- a kind that there is not
abbrev pub no_kind : ℕ → Line
no_kind kind = line not_kept_word (2 < kind)

-- a slot that the desk lacks
abbrev pub no_slot : Desk → ℕ → Line
no_slot d slot = line not_kept_word (Within 1 slot (slots_of d) → ⊥)

-- a dimmer that the desk lacks
abbrev pub no_dimmer : Desk → ℕ → ℕ → Line
no_dimmer d page dimmer = line not_kept_word ((Within 1 page d.patch_pages × Within 1 dimmer d.dimmers) → ⊥)

abbrev pub MemoriesRefused : Desk → List ℕ → ℕ → ℕ → Type 0
MemoriesRefused d s kind n = Told (r2 d ∷ r3 d s ∷ r4a d s ∷ r4b d s ∷ r4c d s ∷ no_kind kind ∷ []) n

-- good form is not tested: `head` and `levels`
abbrev pub SlotRefused : Desk → List ℕ → ℕ → ℕ → Type 0
SlotRefused d s slot n = Told (r2 d ∷ r3 d s ∷ no_slot d slot ∷ []) n

abbrev pub PatchRefused : Desk → List ℕ → ℕ → ℕ → ℕ → Type 0
PatchRefused d s page dimmer n = Told (r2 d ∷ r3 d s ∷ no_dimmer d page dimmer ∷ []) n
