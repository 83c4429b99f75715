-- The stream as the parts that the code writes and counts: lines joined one behind the other.
-- Assumes nothing.
use mathlib.Core.Path.{◌≡◌, sym, ap, ◌∙◌}
use mathlib.Core.List.{List, [], ◌∷◌, ◌++◌, append_assoc}
use Prim.Native.Nat.{ℕ, ◌+◌, ◌≤◌}
use native.Mathlib.Omega.{arith}
use lib.ListN.{length, length-append}
use Rattle.cells.specs.Text.{bytes}
use Rattle.store_desk.specs.declared.Desk.{Desk}
use Rattle.store_desk.specs.declared.Kind.TheVariants.{Cue, Group, Sub}
use Rattle.save_lines.specs.Line.{joined}
use Rattle.text_room.specs.Room.{Room}
use Rattle.save_lines.proofs.Parts.{joined_append}
use Rattle.save.specs.Lines.{patch_lines, kind_lines, lines_of, stream_of}
use Rattle.save.specs.Part.{all_lines}

module _ (d : Desk) (s : List ℕ) where
  pub all_parts : joined (kind_lines d s Cue) ++ (joined (kind_lines d s Group) ++ joined (kind_lines d s Sub)) ≡ joined (all_lines d s)
  unfolding all_lines
  all_parts =
      sym
      (joined_append (kind_lines d s Cue) (kind_lines d s Group ++ kind_lines d s Sub)
      ∙ ap (λ (z : List ℕ). joined (kind_lines d s Cue) ++ z) (joined_append (kind_lines d s Group) (kind_lines d s Sub)))

  pub stream_parts : bytes "IDENT 3:0\r\nCLEAR ALL\r\n" ++ (joined (patch_lines d s) ++ (joined (all_lines d s) ++ bytes "ENDDATA\r\n")) ≡ stream_of d s
  unfolding stream_of lines_of all_lines joined
  stream_parts =
      let p = patch_lines d s in
      let c = kind_lines d s Cue in
      let g = kind_lines d s Group in
      let u = kind_lines d s Sub in
      let last : List (List ℕ) = bytes "ENDDATA" ∷ [] in
      let q : c ++ (g ++ (u ++ last)) ≡ (c ++ (g ++ u)) ++ last =
      sym (append_assoc c (g ++ u) last ∙ ap (λ (z : List (List ℕ)). c ++ z) (append_assoc g u last))
      in
      let e : joined (p ++ (c ++ (g ++ (u ++ last)))) ≡ joined p ++ (joined (c ++ (g ++ u)) ++ bytes "ENDDATA\r\n") =
      joined_append p (c ++ (g ++ (u ++ last)))
      ∙ ap (λ (z : List ℕ). joined p ++ z) (ap joined q ∙ joined_append (c ++ (g ++ u)) last)
      in
      sym (ap (λ (z : List ℕ). bytes "IDENT 3:0\r\nCLEAR ALL\r\n" ++ z) e)

  pub length_is : {p c g u : ℕ} → p ≡ length (joined (patch_lines d s)) → c ≡ length (joined (kind_lines d s Cue)) → g ≡ length (joined (kind_lines d s Group))
      → u ≡ length (joined (kind_lines d s Sub)) → p + c + g + u + 31 ≡ length (stream_of d s)
  length_is ep ec eg eu =
      let x = joined (patch_lines d s) in
      let c = joined (kind_lines d s Cue) in
      let g = joined (kind_lines d s Group) in
      let u = joined (kind_lines d s Sub) in
      let y = joined (all_lines d s) in
      let a : length (g ++ u) ≡ length g + length u = length-append g u in
      let b : length (c ++ (g ++ u)) ≡ length c + length (g ++ u) = length-append c (g ++ u) in
      let e : length (c ++ (g ++ u)) ≡ length y = ap length all_parts in
      let f : length (y ++ bytes "ENDDATA\r\n") ≡ length y + 9 = length-append y (bytes "ENDDATA\r\n") in
      let h : length (x ++ (y ++ bytes "ENDDATA\r\n")) ≡ length x + length (y ++ bytes "ENDDATA\r\n") = length-append x (y ++ bytes "ENDDATA\r\n") in
      let i : length (bytes "IDENT 3:0\r\nCLEAR ALL\r\n" ++ (x ++ (y ++ bytes "ENDDATA\r\n"))) ≡ length (stream_of d s) = ap length stream_parts in
      omega arith

  pub whole_room : (o : List ℕ) → length (stream_of d s) ≤ length o → Room o 0 (stream_of d s)
  whole_room o h = record { fits = omega arith }
