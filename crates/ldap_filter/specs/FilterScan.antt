-- What a scan of a text stands for. Clauses of private functions alone cite this.
use Rattle.std.specs.Prelude.{ℕ, ◌+◌, ◌≤◌, ◌==◌, if◌then◌else◌, Option, Some, None, List, slice_range, ⊤}
use Rattle.osgi_version.specs.VersionText.{is_white}
use Rattle.ldap_filter.specs.FilterText.{is_attribute_byte}
use Rattle.ldap_filter.specs.FilterSteps.{Part, Outside, Opened, Attribute, Comparing, Valued, Escaping, Turn, Refused, Goes, Enters, Opens, Closes, Ends, sign_of, operator_of}
use Rattle.ldap_filter.specs.declared.frame.Sign.{Sign}
use Rattle.ldap_filter.specs.declared.scan.Operator.{Operator}
use Rattle.ldap_filter.specs.declared.scan.Operator.TheVariants as operator
use Rattle.ldap_filter.specs.declared.scan.Scan.{Scan}
use Rattle.ldap_filter.specs.declared.scan.Stage.{Stage}
use Rattle.ldap_filter.specs.declared.scan.Stage.TheVariants as stage
use Rattle.ldap_filter.specs.declared.scan.Move.{Move}
use Rattle.ldap_filter.specs.declared.scan.Move.TheVariants as move

-- the part that ends before the place `at`
abbrev pub staged : Stage → List ℕ → (start end value at : ℕ) → Part
staged stage.Outside text start end value at = Outside
staged stage.Opened text start end value at = Opened
staged (stage.InAttribute group) text start end value at =
    Attribute group (slice_range text start end) (slice_range text end at)
staged (stage.InOperator o) text start end value at = Comparing o (slice_range text start end)
staged (stage.InValue o) text start end value at =
    Valued o (slice_range text start end) (slice_range text value at)
staged (stage.InEscape o) text start end value at =
    Escaping o (slice_range text start end) (slice_range text value at)

abbrev pub part_in : List ℕ → ℕ → Scan → Part
part_in text at s = staged s.stage text s.start s.end s.value at

-- what a move from a scan that ends before the place `at` stands for
abbrev pub turn_in : List ℕ → ℕ → Scan → Move → Turn
turn_in text at s move.Refuse = Refused
turn_in text at s (move.Go next) = Goes (part_in text (at + 1) next)
turn_in text at s (move.Enter sign) = Enters sign
turn_in text at s move.Open = Opens
turn_in text at s move.Close = Closes
turn_in text at s (move.End o) = Ends o (slice_range text s.start s.end) (slice_range text s.value at)

pub record IsScanAt (at : ℕ) (s : Scan) : Type 0 where
  pub ordered : s.start ≤ s.end
  pub within : s.end ≤ at
  pub value : s.value ≤ at

-- A scan that goes on ends before the place.
abbrev pub Keeps : ℕ → Move → Type 0
Keeps at (move.Go next) = IsScanAt at next
Keeps at _ = ⊤

-- the moves of each stage

abbrev pub outside_move : Scan → ℕ → Move
outside_move s b =
    if b == 40 then move.Open else (if b == 41 then move.Close else (if is_white b then move.Go s else move.Refuse))

abbrev pub opened_move : Scan → ℕ → ℕ → Move
opened_move s b at =
    if is_white b then move.Go s
    else (if is_attribute_byte b then move.Go (record s { stage = stage.InAttribute (sign_of b); start = at; end = at + 1 }) else move.Refuse)

abbrev pub group_move : Option Sign → Move
group_move None = move.Refuse
group_move (Some sign) = move.Enter sign

abbrev pub operator_move : Scan → Option Operator → Move
operator_move s None = move.Refuse
operator_move s (Some o) = move.Go (record s { stage = stage.InOperator o })

abbrev pub attribute_move : Scan → Option Sign → ℕ → ℕ → Move
attribute_move s group b at =
    if is_white b then move.Go s
    else (if is_attribute_byte b then move.Go (record s { stage = stage.InAttribute None; end = at + 1 })
    else (if b == 61 then move.Go (record s { stage = stage.InValue operator.Equal; value = at + 1 })
    else (if b == 40 then group_move group else operator_move s (operator_of b))))

abbrev pub operator_end_move : Scan → Operator → ℕ → ℕ → Move
operator_end_move s o b at =
    if b == 61 then move.Go (record s { stage = stage.InValue o; value = at + 1 }) else move.Refuse

abbrev pub value_move : Scan → Operator → ℕ → Move
value_move s o b =
    if b == 41 then move.End o
    else (if b == 40 then move.Refuse else (if b == 92 then move.Go (record s { stage = stage.InEscape o }) else move.Go s))
