-- Why a call is turned away, as a number, and what a call answers (paper 01, "Calls turned away"; paper 02, C-11, C-13).
-- Assumes nothing.
use Rattle.std.specs.Prelude.{cond, List, [], ◌∷◌, ◌≡◌, ℕ, ◌+◌, ◌*◌, Err, Ok, Result}
use Rattle.store_desk.specs.declared.Desk.{Desk}
use Rattle.store_desk.specs.declared.Refusal.{Refusal}
use Rattle.store_desk.specs.declared.Refusal.TheVariants.{R1, R2, R3, R4a, R4b, R4c, R5, R6, R7}
use Rattle.store_desk.specs.Size.{in_range_of, store_length}

-- the number of a refusal in the paper's table: R4a, R4b, R4c read as hexadecimal
abbrev pub refusal_number : Refusal → ℕ
refusal_number R1 = 1
refusal_number R2 = 2
refusal_number R3 = 3
refusal_number (R4a p) = 0x4A
refusal_number (R4b p) = 0x4B
refusal_number (R4c p) = 0x4C
refusal_number R5 = 5
refusal_number (R6 n) = 6
refusal_number R7 = 7

-- the place, from 1, that R4a, R4b and R4c tell; 0 with every other
abbrev pub refusal_place : Refusal → ℕ
refusal_place R1 = 0
refusal_place R2 = 0
refusal_place R3 = 0
refusal_place (R4a p) = p
refusal_place (R4b p) = p
refusal_place (R4c p) = p
refusal_place R5 = 0
refusal_place (R6 n) = 0
refusal_place R7 = 0

-- what it tells beside them: R6 the length needed
abbrev pub refusal_told : Refusal → List ℕ
refusal_told R1 = []
refusal_told R2 = []
refusal_told R3 = []
refusal_told (R4a p) = []
refusal_told (R4b p) = []
refusal_told (R4c p) = []
refusal_told R5 = []
refusal_told (R6 n) = n ∷ []
refusal_told R7 = []

-- what a call answers: 0 or the paper's number, the place that R4a, R4b and R4c tell, and what it tells beside them
pub record Reply : Type 0 where
  pub number : ℕ
  pub place : ℕ
  pub told : List ℕ

abbrev pub replied : List ℕ → Reply
replied l = record { number = 0; place = 0; told = l }

abbrev pub refused : Refusal → Reply
refused r = record { number = refusal_number r; place = refusal_place r; told = refusal_told r }

-- number and place in one word, where an answer is a word
abbrev pub place_unit : ℕ
place_unit = 256

abbrev pub reply_word : Reply → ℕ
reply_word a = a.number + place_unit * a.place

abbrev pub refusal_word : Refusal → ℕ
refusal_word r = reply_word (refused r)

-- no desk has more slots, or more patch entries
abbrev pub most_places : ℕ
most_places = 2048

-- ---- needed: R2, or the length

abbrev pub needed_reply : Result ℕ Refusal → Reply
needed_reply (Err r) = refused r
needed_reply (Ok n) = replied (n ∷ [])

unfoldable pub needed_call : Desk → Reply
needed_call d = cond (in_range_of d) (replied (store_length d ∷ [])) (refused R2)

abbrev pub NeededPromise : Desk → Result ℕ Refusal → Type 0
NeededPromise d a = needed_reply a ≡ needed_call d
