-- A load with translation into a store of bytes leaves a store of bytes: its records do, as in a normal load, and so does each link.
-- Assumes nothing.
use mathlib.Core.List.{List}
use Prim.Native.Nat.{ℕ}
use Rattle.store_desk.specs.declared.Desk.{Desk}
use Rattle.store_head.specs.Pack.{Bytes}
use Rattle.text_records.specs.Stream.{records_of}
use Rattle.load.specs.Step.{nothing_open}
use Rattle.load.specs.Translated.{anew_from_one, linked, translated_of}
use Rattle.theorem_told.proofs.Bytes.{Octets, head_kept, edit_at_kept, run_kept}
use Rattle.theorem_translated.specs.Links.{read_of, asked_of, bornes_of}
use Rattle.theorem_translated.proofs.Links.{link_edit, links_keep}

pub translated_bytes : (d : Desk) (t stream : List ℕ) → Bytes t → Bytes (translated_of d t stream).store
unfolding translated_of linked
translated_bytes d t stream b =
    let asked = asked_of d t stream in
    let bs = bornes_of d t stream in
    (links_keep d asked bs Octets d.cues 0 (λ k a c u h e. edit_at_kept d h k (link_edit d asked bs k) (head_kept d (link_edit d asked bs k) tt))
    (record { store = (read_of d t stream).store; lost = 0 })
    (run_kept d 0 anew_from_one nothing_open t (records_of stream) (record { bytes = b }))
    ).bytes
