-- The head of a slot and the patch entry as tables of widths (paper 01, "The store"), and their bytes.
-- Assumes nothing.
use Rattle.std.specs.Prelude.{List, [], ◌∷◌, ℕ, get_or, replicate}
use Rattle.store_head.specs.declared.Head.{Head}
use Rattle.store_head.specs.declared.Patch.{Patch}
use Rattle.store_head.specs.Pack.{packed, unpacked}

-- n bytes are n fields of 8 bits
abbrev pub octets : ℕ → List ℕ
octets n = replicate n 8

-- ---- the head: 24 bytes

-- bits of a flag, a page, a number's whole part and its fraction, a time, and those that are zero
abbrev pub flag_bits : ℕ
flag_bits = 1

abbrev pub page_bits : ℕ
page_bits = 6

abbrev pub whole_bits : ℕ
whole_bits = 10

abbrev pub fraction_bits : ℕ
fraction_bits = 4

abbrev pub time_bits : ℕ
time_bits = 26

abbrev pub rest_bits : ℕ
rest_bits = 23

-- used, page, whole number, fraction; link present, whole, fraction;
-- UP present, fade, delay; DOWN the same; FOLLOWON present, time; zero bits
abbrev pub head_widths : List ℕ
head_widths =
    flag_bits
    ∷ page_bits
    ∷ whole_bits
    ∷ fraction_bits
    ∷ flag_bits
    ∷ whole_bits
    ∷ fraction_bits
    ∷ flag_bits
    ∷ time_bits
    ∷ time_bits
    ∷ flag_bits
    ∷ time_bits
    ∷ time_bits
    ∷ flag_bits
    ∷ time_bits
    ∷ rest_bits
    ∷ []

-- where the fields of LINK, UP, DOWN and FOLLOWON begin in it, each with whether it is present
abbrev pub link_at : ℕ
link_at = 4

abbrev pub up_at : ℕ
up_at = 7

abbrev pub down_at : ℕ
down_at = 10

abbrev pub followon_at : ℕ
followon_at = 13

abbrev pub head_values : Head → List ℕ
head_values h =
    h.used
    ∷ h.page
    ∷ h.whole
    ∷ h.fraction
    ∷ h.link
    ∷ h.link_whole
    ∷ h.link_fraction
    ∷ h.up
    ∷ h.up_fade
    ∷ h.up_delay
    ∷ h.down
    ∷ h.down_fade
    ∷ h.down_delay
    ∷ h.followon
    ∷ h.followon_time
    ∷ h.rest
    ∷ []

abbrev pub head_from : List ℕ → Head
head_from vs =
    record {
      used = get_or vs 0 0;
      page = get_or vs 1 0;
      whole = get_or vs 2 0;
      fraction = get_or vs 3 0;
      link = get_or vs 4 0;
      link_whole = get_or vs 5 0;
      link_fraction = get_or vs 6 0;
      up = get_or vs 7 0;
      up_fade = get_or vs 8 0;
      up_delay = get_or vs 9 0;
      down = get_or vs 10 0;
      down_fade = get_or vs 11 0;
      down_delay = get_or vs 12 0;
      followon = get_or vs 13 0;
      followon_time = get_or vs 14 0;
      rest = get_or vs 15 0;
    }

unfoldable pub encode_head : Head → List ℕ
encode_head h = unpacked (octets 24) (packed head_widths (head_values h))

-- of the first 24 bytes of a list
unfoldable pub decode_head : List ℕ → Head
decode_head s = head_from (unpacked head_widths (packed (octets 24) s))

-- ---- the patch entry: 3 bytes

-- channel 10 bits, level 8, six zero bits
abbrev pub channel_bits : ℕ
channel_bits = 10

abbrev pub patch_widths : List ℕ
patch_widths = channel_bits ∷ 8 ∷ 6 ∷ []

abbrev pub patch_values : Patch → List ℕ
patch_values p = p.channel ∷ p.level ∷ p.rest ∷ []

abbrev pub patch_of : List ℕ → Patch
patch_of vs = record { channel = get_or vs 0 0; level = get_or vs 1 0; rest = get_or vs 2 0 }

unfoldable pub encode_patch : Patch → List ℕ
encode_patch p = unpacked (octets 3) (packed patch_widths (patch_values p))

-- of the first 3 bytes of a list
unfoldable pub decode_patch : List ℕ → Patch
decode_patch s = patch_of (unpacked patch_widths (packed (octets 3) s))
