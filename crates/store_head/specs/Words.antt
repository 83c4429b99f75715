-- The head as the code builds it: three words of eight bytes, of which the first two end inside a delay (law `words_head`).
-- Assumes nothing.
use Rattle.std.specs.Prelude.{[], ◌∷◌, ℕ, ◌-◌, ◌/◌, ◌%◌, ◌^◌}
use Rattle.store_head.specs.declared.Head.{Head}
use Rattle.store_head.specs.Pack.{packed}
use Rattle.store_head.specs.Layout.{flag_bits, page_bits, whole_bits, fraction_bits, time_bits, rest_bits}

-- the bits of UP's delay that lie in the second word, and those of DOWN's that lie in the third
abbrev pub up_rest : ℕ
up_rest = 25

abbrev pub down_rest : ℕ
down_rest = 14

unfoldable pub first_word : Head → ℕ
first_word h =
    packed
    (flag_bits
    ∷ page_bits
    ∷ whole_bits
    ∷ fraction_bits
    ∷ flag_bits
    ∷ whole_bits
    ∷ fraction_bits
    ∷ flag_bits
    ∷ time_bits
    ∷ (time_bits - up_rest)
    ∷ [])
    (h.used
    ∷ h.page
    ∷ h.whole
    ∷ h.fraction
    ∷ h.link
    ∷ h.link_whole
    ∷ h.link_fraction
    ∷ h.up
    ∷ h.up_fade
    ∷ h.up_delay / 2 ^ up_rest
    ∷ [])

unfoldable pub second_word : Head → ℕ
second_word h =
    packed (up_rest ∷ flag_bits ∷ time_bits ∷ (time_bits - down_rest) ∷ [])
    (h.up_delay % 2 ^ up_rest ∷ h.down ∷ h.down_fade ∷ h.down_delay / 2 ^ down_rest ∷ [])

unfoldable pub third_word : Head → ℕ
third_word h =
    packed (down_rest ∷ flag_bits ∷ time_bits ∷ rest_bits ∷ [])
    (h.down_delay % 2 ^ down_rest ∷ h.followon ∷ h.followon_time ∷ h.rest ∷ [])
