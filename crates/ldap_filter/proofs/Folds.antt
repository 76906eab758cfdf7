-- What a fold gives at each variant of a filter.
use Rattle.std.proofs.Common.{◌≡◌, ℕ, List, map, ◌∙◌, ap, sym}
use Rattle.ldap_filter.specs.declared.test.Test.{Test}
use Rattle.ldap_filter.specs.declared.filter.Filter.{Filter, out-Filter, fold-Filter, fold-roll-Filter}
use Rattle.ldap_filter.specs.declared.filter.Filter.TheVariants.{And, Or, Not, Item, rolls-And, rolls-Or, rolls-Not, rolls-Item}
use Rattle.ldap_filter.specs.declared.filter.Filter.TheOpen.{Filter-F}
use Rattle.ldap_filter.specs.declared.filter.Filter.TheOpen as level
use Rattle.ldap_filter.specs.declared.filter.Filter.TheViews.{out-roll-Filter}

module _ (A : Type 0) (step : Filter-F A → A) where
  pub fold-And : (fs : List Filter) → fold-Filter A step (And fs) ≡ step (level.And (map (fold-Filter A step) fs))
  fold-And fs = ap (fold-Filter A step) (sym (rolls-And fs)) ∙ fold-roll-Filter A step (level.And fs)

  pub fold-Or : (fs : List Filter) → fold-Filter A step (Or fs) ≡ step (level.Or (map (fold-Filter A step) fs))
  fold-Or fs = ap (fold-Filter A step) (sym (rolls-Or fs)) ∙ fold-roll-Filter A step (level.Or fs)

  pub fold-Not : (f : Filter) → fold-Filter A step (Not f) ≡ step (level.Not (fold-Filter A step f))
  fold-Not f = ap (fold-Filter A step) (sym (rolls-Not f)) ∙ fold-roll-Filter A step (level.Not f)

  pub fold-Item : (a : List ℕ) (t : Test) → fold-Filter A step (Item a t) ≡ step (level.Item a t)
  fold-Item a t = ap (fold-Filter A step) (sym (rolls-Item a t)) ∙ fold-roll-Filter A step (level.Item a t)

pub out-And : (fs : List Filter) → out-Filter (And fs) ≡ level.And fs
out-And fs = ap out-Filter (sym (rolls-And fs)) ∙ out-roll-Filter (level.And fs)

pub out-Or : (fs : List Filter) → out-Filter (Or fs) ≡ level.Or fs
out-Or fs = ap out-Filter (sym (rolls-Or fs)) ∙ out-roll-Filter (level.Or fs)

pub out-Not : (f : Filter) → out-Filter (Not f) ≡ level.Not f
out-Not f = ap out-Filter (sym (rolls-Not f)) ∙ out-roll-Filter (level.Not f)

pub out-Item : (a : List ℕ) (t : Test) → out-Filter (Item a t) ≡ level.Item a t
out-Item a t = ap out-Filter (sym (rolls-Item a t)) ∙ out-roll-Filter (level.Item a t)
