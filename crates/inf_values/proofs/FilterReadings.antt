-- Each text denotes one filter, or none.
use Rattle.std.proofs.Common.{◌≡◌, ℕ, Option, Some, None, List, refl, ap}
use Rattle.ldap_filter.specs.FilterText.{DenotesFilter, IsFilterText}
use Rattle.ldap_filter.specs.FilterSteps.{State, beginning, run, whole_in}
use Rattle.ldap_filter.specs.declared.filter.Filter.{Filter}
use Rattle.ldap_filter.proofs.FilterRuns.{run-denoted}
use Rattle.ldap_filter.proofs.FilterPlaces.{refused_open, DenotesFilter-whole, DenotesFilter-unique}
use Rattle.inf_values.specs.Readings.{Reads}

-- a text of the grammar is read through to its end
not_read : (text : List ℕ) → run text beginning ≡ None → ¬ (IsFilterText text)
not_read text e whole = let gives = run-denoted text whole.0 whole.1 in cc

-- the filter that the text denotes, where it denotes one
found : (text : List ℕ) (o : Option State) → run text beginning ≡ o → (f : Option Filter) × Reads DenotesFilter text f
found text None e = (None, λ f d. not_read text e (f, d))
found text (Some s) e = by (whole_in s.part s.frames) refl
  where
    by : (whole : Option Filter) → whole_in s.part s.frames ≡ whole → (f : Option Filter) × Reads DenotesFilter text f
    by (Some f) whole = (Some f, DenotesFilter-whole text s f e whole)
    by None whole = (None, λ f d. refused_open text s e whole (f, d))

pub filter_read : (text : List ℕ) → (f : Option Filter) × Reads DenotesFilter text f
filter_read text = found text (run text beginning) refl

-- The reading is the only one.
pub filter_once : (text : List ℕ) (a b : Option Filter) → Reads DenotesFilter text a → Reads DenotesFilter text b → a ≡ b
filter_once text None None one other = refl
filter_once text None (Some g) one other = absurd (one g other)
filter_once text (Some f) None one other = absurd (other f one)
filter_once text (Some f) (Some g) one other = ap Some (DenotesFilter-unique text f g one other)
