-- How a filter's text is read byte by byte. Clauses of private functions alone cite this.
use Rattle.std.specs.Prelude.{ℕ, ◌==◌, Bool, true, false, nat_lt, nat_eq, if◌then◌else◌, Option, Some, None, option_and_then, List, [], ◌∷◌, ◌++◌, length}
use Rattle.std.specs.Cmp.Lexicographic.{pointwise}
use Rattle.osgi_version.specs.VersionText.{is_white}
use Rattle.ldap_filter.specs.EnvPairs.{lowered}
use Rattle.ldap_filter.specs.FilterText.{is_attribute_byte}
use Rattle.ldap_filter.specs.FilterValue.{plain, pieces}
use Rattle.ldap_filter.specs.declared.test.Test.{Test}
use Rattle.ldap_filter.specs.declared.test.Test.TheVariants as test
use Rattle.ldap_filter.specs.declared.filter.Filter.{Filter}
use Rattle.ldap_filter.specs.declared.filter.Filter.TheVariants as filter
use Rattle.ldap_filter.specs.declared.frame.Sign.{Sign}
use Rattle.ldap_filter.specs.declared.frame.Sign.TheVariants as sign
use Rattle.ldap_filter.specs.declared.frame.Frame.{Frame}
use Rattle.ldap_filter.specs.declared.frame.Frame.TheVariants as frame
use Rattle.ldap_filter.specs.declared.scan.Operator.{Operator}
use Rattle.ldap_filter.specs.declared.scan.Operator.TheVariants as operator

abbrev pub begun : Sign → Frame
begun sign.And = frame.And []
begun sign.Or = frame.Or []
begun sign.Not = frame.Not None

-- whether a filter may stand here
abbrev pub takes : Frame → Bool
takes (frame.Whole None) = true
takes (frame.Whole (Some f)) = false
takes (frame.And fs) = true
takes (frame.Or fs) = true
takes (frame.Not None) = true
takes (frame.Not (Some f)) = false

-- with one more filter
abbrev pub received : Filter → Frame → Frame
received f (frame.Whole o) = frame.Whole (Some f)
received f (frame.And fs) = frame.And (fs ++ f ∷ [])
received f (frame.Or fs) = frame.Or (fs ++ f ∷ [])
received f (frame.Not o) = frame.Not (Some f)

-- the filter that ends here
abbrev pub composite : Frame → Option Filter
composite (frame.Whole o) = None
composite (frame.And fs) = Some (filter.And fs)
composite (frame.Or fs) = Some (filter.Or fs)
composite (frame.Not None) = None
composite (frame.Not (Some f)) = Some (filter.Not f)

-- What is read of the filter that is read now.
pub data Part : Type 0 where
  -- between filters
  Outside : Part
  -- behind `(`
  Opened : Part
  -- in an attribute: what is read of it, and the white space behind that. It may be a sign.
  Attribute : (group : Option Sign) (core after : List ℕ) → Part
  -- behind the first byte of an operator of two
  Comparing : (by : Operator) (core : List ℕ) → Part
  Valued : (by : Operator) (core value : List ℕ) → Part
  -- behind a backslash of a value
  Escaping : (by : Operator) (core value : List ℕ) → Part

-- What one more byte means.
pub data Turn : Type 0 where
  Refused : Turn
  Goes : (part : Part) → Turn
  -- `(` behind a sign
  Enters : (sign : Sign) → Turn
  -- `(` or `)` between filters
  Opens : Turn
  Closes : Turn
  -- `)` behind a value
  Ends : (by : Operator) (core value : List ℕ) → Turn

abbrev pub sign_of : ℕ → Option Sign
sign_of b =
    if b == 38 then Some sign.And else (if b == 124 then Some sign.Or else (if b == 33 then Some sign.Not else None))

-- the operator of two bytes that begins so
abbrev pub operator_of : ℕ → Option Operator
operator_of b =
    if b == 126 then Some operator.Near else (if b == 62 then Some operator.AtLeast else (if b == 60 then Some operator.AtMost else None))

abbrev pub group_turn : Option Sign → Turn
group_turn None = Refused
group_turn (Some s) = Enters s

abbrev pub operator_turn : List ℕ → Option Operator → Turn
operator_turn core None = Refused
operator_turn core (Some o) = Goes (Comparing o core)

abbrev pub outside_turn : ℕ → Turn
outside_turn b =
    if b == 40 then Opens else (if b == 41 then Closes else (if is_white b then Goes Outside else Refused))

abbrev pub opened_turn : ℕ → Turn
opened_turn b =
    if is_white b then Goes Opened else (if is_attribute_byte b then Goes (Attribute (sign_of b) (b ∷ []) []) else Refused)

abbrev pub attribute_turn : Option Sign → List ℕ → List ℕ → ℕ → Turn
attribute_turn group core after b =
    if is_white b then Goes (Attribute group core (after ++ b ∷ []))
    else (if is_attribute_byte b then Goes (Attribute None (core ++ (after ++ b ∷ [])) [])
    else (if b == 61 then Goes (Valued operator.Equal core [])
    else (if b == 40 then group_turn group else operator_turn core (operator_of b))))

abbrev pub value_turn : Operator → List ℕ → List ℕ → ℕ → Turn
value_turn o core value b =
    if b == 41 then Ends o core value
    else (if b == 40 then Refused
    else (if b == 92 then Goes (Escaping o core (value ++ b ∷ [])) else Goes (Valued o core (value ++ b ∷ []))))

abbrev pub turn : Part → ℕ → Turn
turn Outside b = outside_turn b
turn Opened b = opened_turn b
turn (Attribute group core after) b = attribute_turn group core after b
turn (Comparing o core) b = if b == 61 then Goes (Valued o core []) else Refused
turn (Valued o core value) b = value_turn o core value b
turn (Escaping o core value) b = Goes (Valued o core (value ++ b ∷ []))

-- what an operator and a value that is written say
abbrev pub test_of : Operator → List ℕ → Test
test_of operator.Equal value = if pointwise nat_eq value (42 ∷ []) then test.Present else test.Equal (pieces value)
test_of operator.Near value = test.Near (plain value)
test_of operator.AtLeast value = test.AtLeast (plain value)
test_of operator.AtMost value = test.AtMost (plain value)

-- The frames that are open, innermost first.
pub record State : Type 0 where
  pub part : Part
  pub frames : List Frame

abbrev pub at_part : List Frame → Part → State
at_part frames p = record { part = p; frames = frames }

-- before the first byte
abbrev pub beginning : State
beginning = at_part (frame.Whole None ∷ []) Outside

-- behind a filter
abbrev pub added : Filter → List Frame → Option State
added f [] = None
added f (fr ∷ frames) = Some (at_part (received f fr ∷ frames) Outside)

abbrev pub opened : List Frame → Option State
opened [] = None
opened (fr ∷ frames) = if takes fr then Some (at_part (fr ∷ frames) Opened) else None

abbrev pub closed : List Frame → Option State
closed [] = None
closed (fr ∷ frames) = option_and_then (λ f. added f frames) (composite fr)

abbrev pub entered : List Frame → Sign → Option State
entered frames s = if nat_lt (length frames) 64 then Some (at_part (begun s ∷ frames) Opened) else None

abbrev pub turned : List Frame → Turn → Option State
turned frames Refused = None
turned frames (Goes p) = Some (at_part frames p)
turned frames (Enters s) = entered frames s
turned frames Opens = opened frames
turned frames Closes = closed frames
turned frames (Ends o core value) = added (filter.Item (lowered core) (test_of o value)) frames

-- the state after one more byte
abbrev pub step : State → ℕ → Option State
step s b = turned s.frames (turn s.part b)

-- the state after a text, where it goes through
abbrev pub run : List ℕ → State → Option State
run [] s = Some s
run (b ∷ bs) s = option_and_then (run bs) (step s b)

-- the filter that is whole there
abbrev pub top_of : List Frame → Option Filter
top_of [] = None
top_of (frame.Whole o ∷ frames) = o
top_of (frame.And fs ∷ frames) = None
top_of (frame.Or fs ∷ frames) = None
top_of (frame.Not o ∷ frames) = None

-- the filter, where the text may end here
abbrev pub whole_in : Part → List Frame → Option Filter
whole_in Outside frames = top_of frames
whole_in Opened frames = None
whole_in (Attribute group core after) frames = None
whole_in (Comparing o core) frames = None
whole_in (Valued o core value) frames = None
whole_in (Escaping o core value) frames = None
