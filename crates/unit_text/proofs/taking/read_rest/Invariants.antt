use Rattle.std.proofs.Common.{◌≡◌, ℕ, List, ◌∷◌, take, map}
use Rattle.unit_lines.specs.Line.{seen}
use Rattle.unit_lines.specs.Parts.{part_line}
use Rattle.unit_text.specs.Draft.{IsNamed}
use Rattle.unit_text.proofs.Drafts.{draft_parts, IsDraft}
use Rattle.unit_text.proofs.taking.read_rest.Given as goal

-- what was read is the lines so far
abbrev pub invariant-loop-place : goal.invariant-loop-place
invariant-loop-place l = (first : List ℕ) → IsNamed first l.fn.draft → IsDraft l.draft × (first ∷ seen (take l.place l.rest) ≡ map part_line (draft_parts l.draft))
