use Rattle.std.specs.Prelude.{List, ℕ, ⊤}
use Rattle.osgi_version.specs.Begins.{IsLongestBegin}
use Rattle.ldap_filter.specs.FilterText.{IsFilterText}
use Rattle.ldap_filter.specs.declared.filter_fault.FilterFault.{FilterFault}
use Rattle.ldap_filter.specs.declared.filter_fault.FilterFault.TheVariants.{Bad, NoMemory}

-- Why a text is no filter. Want of memory has no cause.
abbrev pub IsFilterFault : List ℕ → FilterFault → Type 0
IsFilterFault text (Bad at) = ¬ (IsFilterText text) × IsLongestBegin IsFilterText text at
IsFilterFault text NoMemory = ⊤
