-- What the calls for other programs answer and leave behind: the public calls, with numbers and lists, and their promises by name (paper
-- 01, "Calls turned away").
-- Assumes nothing.
use Rattle.std.specs.Prelude.{List, [], ◌∷◌, ◌≡◌, ℕ, get_or}
use Rattle.cells.specs.Note.{noted_from}
use Rattle.store_desk.specs.declared.Desk.{Desk}
use Rattle.store_desk.specs.Refusal.{Reply, reply_word, needed_call}
use Rattle.show.specs.Calls.{LoadCall, load_call, translate_call, WriteCall, put_call, write_call, EmptyCall, empty_call, find_call}
use Rattle.show_read.specs.Calls.{ListCall, memories_call, head_call, levels_call, patch_call}

-- a desk is the list of its nine limits; a limit that the list lacks is 0
unfoldable pub desk_of : List ℕ → Desk
desk_of l =
    record {
      channels = get_or l 0 0;
      dimmers = get_or l 1 0;
      cues = get_or l 2 0;
      groups = get_or l 3 0;
      subs = get_or l 4 0;
      cue_pages = get_or l 5 0;
      group_pages = get_or l 6 0;
      sub_pages = get_or l 7 0;
      patch_pages = get_or l 8 0;
    }

-- the answer as one word, and the lists that the call may write, in the order of its parameters
pub record Exported : Type 0 where
  pub word : ℕ
  pub lent : List (List ℕ)

abbrev pub exported : ℕ → List (List ℕ) → Exported
exported n ls = record { word = n; lent = ls }

-- ---- the calls: the answer's number and place as one word, the lent lists as the public call leaves them, and last the list for what it tells

unfoldable pub replied_in : Reply → List ℕ → Exported
replied_in a l = exported (reply_word a) (noted_from 0 l a.told ∷ [])

unfoldable pub emptied_in : EmptyCall → Exported
emptied_in x = exported (reply_word x.reply) (x.store ∷ [])

unfoldable pub loaded_in : LoadCall → List ℕ → Exported
loaded_in x l = exported (reply_word x.reply) (x.store ∷ x.reports ∷ noted_from 0 l x.reply.told ∷ [])

unfoldable pub written_in : WriteCall → List ℕ → Exported
written_in x l = exported (reply_word x.reply) (x.out ∷ noted_from 0 l x.reply.told ∷ [])

unfoldable pub listed_in : ListCall → List ℕ → Exported
listed_in x l = exported (reply_word x.reply) (x.slots ∷ noted_from 0 l x.reply.told ∷ [])

-- ---- the promises: of the word, and each lent list afterwards

abbrev pub NeededExport : List ℕ → List ℕ → ℕ → List ℕ → Type 0
NeededExport limits l n m = exported n (m ∷ []) ≡ replied_in (needed_call (desk_of limits)) l

abbrev pub EmptyExport : List ℕ → List ℕ → ℕ → List ℕ → Type 0
EmptyExport limits s n t = exported n (t ∷ []) ≡ emptied_in (empty_call (desk_of limits) s)

abbrev pub LoadExport : List ℕ → List ℕ → List ℕ → List ℕ → List ℕ → ℕ → List ℕ → List ℕ → List ℕ → Type 0
LoadExport limits s stream reps l n t q m = exported n (t ∷ q ∷ m ∷ []) ≡ loaded_in (load_call (desk_of limits) s reps stream) l

abbrev pub TranslateExport : List ℕ → List ℕ → List ℕ → List ℕ → List ℕ → ℕ → List ℕ → List ℕ → List ℕ → Type 0
TranslateExport limits s stream reps l n t q m = exported n (t ∷ q ∷ m ∷ []) ≡ loaded_in (translate_call (desk_of limits) s reps stream) l

abbrev pub WriteExport : List ℕ → List ℕ → List ℕ → List ℕ → ℕ → List ℕ → List ℕ → Type 0
WriteExport limits s out l n o m = exported n (o ∷ m ∷ []) ≡ written_in (write_call (desk_of limits) s out) l

abbrev pub FindExport : List ℕ → List ℕ → ℕ → ℕ → ℕ → List ℕ → ℕ → List ℕ → Type 0
FindExport limits s page whole tenths l n m = exported n (m ∷ []) ≡ replied_in (find_call (desk_of limits) s page whole tenths) l

abbrev pub MemoriesExport : List ℕ → List ℕ → ℕ → List ℕ → List ℕ → ℕ → List ℕ → List ℕ → Type 0
MemoriesExport limits s kind slots l n t m = exported n (t ∷ m ∷ []) ≡ listed_in (memories_call (desk_of limits) s kind slots) l

abbrev pub HeadExport : List ℕ → List ℕ → ℕ → List ℕ → ℕ → List ℕ → Type 0
HeadExport limits s slot l n m = exported n (m ∷ []) ≡ replied_in (head_call (desk_of limits) s slot) l

abbrev pub LevelsExport : List ℕ → List ℕ → ℕ → List ℕ → ℕ → List ℕ → Type 0
LevelsExport limits s slot l n m = exported n (m ∷ []) ≡ replied_in (levels_call (desk_of limits) s slot) l

abbrev pub PatchExport : List ℕ → List ℕ → ℕ → ℕ → List ℕ → ℕ → List ℕ → Type 0
PatchExport limits s page dimmer l n m = exported n (m ∷ []) ≡ replied_in (patch_call (desk_of limits) s page dimmer) l

-- of a text
abbrev pub TextExport : List ℕ → List ℕ → List ℕ → ℕ → List ℕ → List ℕ → Type 0
TextExport text out l n o m = exported n (o ∷ m ∷ []) ≡ written_in (put_call text out) l
