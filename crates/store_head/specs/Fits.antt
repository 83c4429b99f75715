-- What fits the bits of a head and of a patch entry, and a memory's key in one number. For laws and for the code; no promise names these.
-- Assumes nothing.
use Rattle.std.specs.Prelude.{List, [], ◌∷◌, ℕ, ◌+◌, ◌/◌, ◌^◌, ◌<◌}
use Rattle.store_head.specs.declared.Head.{Head}
use Rattle.store_head.specs.declared.Patch.{Patch}
use Rattle.store_head.specs.Pack.{packed}
use Rattle.store_head.specs.Layout.{octets, flag_bits, page_bits, whole_bits, fraction_bits, time_bits, rest_bits, channel_bits}

-- how many values the bits of each hold
abbrev pub flag_span : ℕ
flag_span = 2 ^ flag_bits

abbrev pub page_span : ℕ
page_span = 2 ^ page_bits

abbrev pub whole_span : ℕ
whole_span = 2 ^ whole_bits

abbrev pub fraction_span : ℕ
fraction_span = 2 ^ fraction_bits

abbrev pub time_span : ℕ
time_span = 2 ^ time_bits

abbrev pub rest_span : ℕ
rest_span = 2 ^ rest_bits

-- each field fits its width
pub record HeadFits (h : Head) : Type 0 where
  pub used : h.used < flag_span
  pub page : h.page < page_span
  pub whole : h.whole < whole_span
  pub fraction : h.fraction < fraction_span
  pub link : h.link < flag_span
  pub link_whole_of : h.link_whole < whole_span
  pub link_fraction_of : h.link_fraction < fraction_span
  pub up : h.up < flag_span
  pub up_fade_of : h.up_fade < time_span
  pub up_delay_of : h.up_delay < time_span
  pub down : h.down < flag_span
  pub down_fade_of : h.down_fade < time_span
  pub down_delay_of : h.down_delay < time_span
  pub followon : h.followon < flag_span
  pub followon_time_of : h.followon_time < time_span
  pub rest : h.rest < rest_span

-- ---- the key in one number, for a fast search: the first 21 bits of a head, three bytes without their last three bits
abbrev pub key_widths : List ℕ
key_widths = flag_bits ∷ page_bits ∷ whole_bits ∷ fraction_bits ∷ []

-- what the used bit, one page and one whole number count in it; a used slot's is the first of these or more (law `word_sum`)
abbrev pub used_word : ℕ
used_word = 2 ^ (page_bits + whole_bits + fraction_bits)

abbrev pub page_word : ℕ
page_word = 2 ^ (whole_bits + fraction_bits)

abbrev pub whole_word : ℕ
whole_word = 2 ^ fraction_bits

unfoldable pub word_of : ℕ → ℕ → ℕ → ℕ → ℕ
word_of used page whole fraction = packed key_widths (used ∷ page ∷ whole ∷ fraction ∷ [])

unfoldable pub quick_of : List ℕ → ℕ
quick_of s = packed (octets 3) s / 8

abbrev pub channel_span : ℕ
channel_span = 2 ^ channel_bits

pub record PatchFits (p : Patch) : Type 0 where
  pub channel : p.channel < channel_span
  pub level : p.level < 256
  pub rest : p.rest < 64
