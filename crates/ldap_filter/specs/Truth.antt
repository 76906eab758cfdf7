-- When a filter is true in an environment (RFC 1960; OSGi Core, "Filter Syntax").
use Rattle.std.specs.Prelude.{ℕ, Bool, true, false, ◌==◌, ◌||◌, not, nat_eq, Option, Some, None, List, map, filter}
use Rattle.std.specs.List.{list_any, list_all}
use Rattle.std.specs.Char.{to_ascii_lowercase}
use Rattle.std.specs.Ordering.{nat_cmp, is_le, is_ge}
use Rattle.std.specs.Cmp.Lexicographic.{pointwise, slice_cmp}
use Rattle.ldap_filter.specs.EnvPairs.{EnvPair, lowered, value_of}
use Rattle.ldap_filter.specs.Pieces.{fits}
use Rattle.ldap_filter.specs.declared.test.Test.{Test}
use Rattle.ldap_filter.specs.declared.test.Test.TheVariants.{Equal, Near, AtLeast, AtMost, Present}
use Rattle.ldap_filter.specs.declared.filter.Filter.{Filter, fold-Filter}
use Rattle.ldap_filter.specs.declared.filter.Filter.TheOpen.{Filter-F, And, Or, Not, Item}

-- space or tab
abbrev pub is_blank : ℕ → Bool
is_blank b = b == 32 || b == 9

-- without blanks, and with small letters for capital ones
abbrev pub blurred : List ℕ → List ℕ
blurred value = map to_ascii_lowercase (filter (λ b. not (is_blank b)) value)

-- what a test says of a value; bytes are compared from the left
abbrev pub test_true : Test → List ℕ → Bool
test_true (Equal pieces) value = fits pieces value
test_true (Near other) value = pointwise nat_eq (blurred other) (blurred value)
test_true (AtLeast bound) value = is_ge (slice_cmp nat_cmp value bound)
test_true (AtMost bound) value = is_le (slice_cmp nat_cmp value bound)
test_true Present value = true

-- no test is true of an attribute that isn't there
abbrev pub item_true : Test → Option (List ℕ) → Bool
item_true test None = false
item_true test (Some value) = test_true test value

-- one level of a filter, with the truth of each filter below in its place
abbrev pub level_true : List EnvPair → Filter-F Bool → Bool
level_true env (And truths) = list_all (λ t. t) truths
level_true env (Or truths) = list_any (λ t. t) truths
level_true env (Not truth) = not truth
level_true env (Item attr test) = item_true test (value_of env (lowered attr))

abbrev pub is_true : List EnvPair → Filter → Bool
is_true env = fold-Filter Bool (level_true env)
