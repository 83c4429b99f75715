-- The conditions, each number once, and their severity (paper 01, "Keywords and conditions"; Appendix B).
-- Assumes nothing.
use Rattle.std.specs.Prelude.{Bool, [], ◌∷◌, ℕ, eqb}
use Rattle.store_desk.specs.declared.Kind.{Kind}
use Rattle.store_desk.specs.declared.Kind.TheVariants.{Cue, Group, Sub}
use Rattle.store_desk.specs.Size.{is_within}
use Rattle.text_records.specs.Cleaning.{has}

-- §7.2: no integer. §7.3 and §8.6 take over its rule on characters, and its number with it
abbrev pub malformed_integer : ℕ
malformed_integer = 171

-- §7.5: bad hexadecimal digits
abbrev pub bad_hex : ℕ
bad_hex = 172

-- §7.3: channel 0, or above C
abbrev pub bad_channel : ℕ
bad_channel = 201

-- §8.6: dimmer 0, or above D
abbrev pub bad_dimmer : ℕ
bad_dimmer = 203

-- §7.5: no percentage
abbrev pub bad_percent : ℕ
bad_percent = 221

-- no room for a new memory: 0021, 0022. A submaster has a slot of its own and never lacks room; its number is the one of §9.3
unfoldable pub full_of : Kind → ℕ
full_of Cue = 21
full_of Group = 22
full_of Sub = 44

-- §7.4: no number, or one too large
abbrev pub bad_number : ℕ
bad_number = 41

abbrev pub number_too_large : ℕ
number_too_large = 42

-- §7.6: a page that is malformed, 0 or too high
abbrev pub bad_page : ℕ
bad_page = 43

-- §9.3: submaster 0 or too high; a malformed one is §7.2's
abbrev pub bad_sub : ℕ
bad_sub = 44

abbrev pub malformed_sub : ℕ
malformed_sub = malformed_integer

-- §9.2, §9.3: a desk without groups, without submasters. Every desk has cues, so that the number for cues is never reported
unfoldable pub unsupported_of : Kind → ℕ
unsupported_of Cue = 0
unsupported_of Group = 51
unsupported_of Sub = 52

-- §5.2: more than 80 characters
abbrev pub over_long_record : ℕ
over_long_record = 91

-- §8.4: another version
abbrev pub ident_mismatch : ℕ
ident_mismatch = 99

-- §5.3: the stream ends before ENDDATA
abbrev pub no_enddata : ℕ
no_enddata = 100

-- §5.6: an unknown keyword. §8.1 gives a wrong CLEAR item no number of its own, so that it is the same
abbrev pub unknown_keyword : ℕ
unknown_keyword = 151

abbrev pub unknown_item : ℕ
unknown_item = unknown_keyword

-- §6.3: a secondary that augments no open primary
abbrev pub wrong_secondary : ℕ
wrong_secondary = 152

-- PATCH's page
abbrev pub bad_patch_page : ℕ
bad_patch_page = 231

-- §7.7
abbrev pub bad_time : ℕ
bad_time = 241

-- §5.1: ignored characters, with the high bit set and non-printing
abbrev pub ignored_high : ℕ
ignored_high = 701

abbrev pub ignored_control : ℕ
ignored_control = 702

-- C-11: the conditions that blame the keyword, whatever stands behind it, and those that blame no field
unfoldable pub blames_keyword : ℕ → Bool
blames_keyword c = has (λ (k : ℕ). eqb c k) (51 ∷ 52 ∷ 151 ∷ 152 ∷ [])

unfoldable pub blames_none : ℕ → Bool
blames_none c = has (λ (k : ℕ). eqb c k) (21 ∷ 22 ∷ 91 ∷ 100 ∷ 701 ∷ 702 ∷ [])

-- Appendix B: 0070 to 0149 are errors, every other condition is a warning
unfoldable pub is_error : ℕ → Bool
is_error c = is_within 70 c 149
