-- The words that lines begin with. Clauses of private functions alone cite the tables.
use Rattle.std.specs.Prelude.{ℕ, List, [], ◌∷◌, codes}
use Rattle.case_table.specs.Rows.{Row}
use Rattle.unit_lines.specs.declared.words.Kind.{Kind}
use Rattle.unit_lines.specs.declared.words.Kind.TheVariants as kind

abbrev pub word_of : Kind → List ℕ
word_of kind.Name = codes "unit"
word_of kind.Singleton = codes "singleton"
word_of kind.Filter = codes "filter"
word_of kind.Update = codes "update"
word_of kind.Touchpoint = codes "touchpoint"
word_of kind.Property = codes "property"
word_of kind.Provided = codes "provides"
word_of kind.Required = codes "requires"
word_of kind.Artifact = codes "artifact"
word_of kind.Phase = codes "phase"
word_of kind.End = codes "end"

abbrev pub kinds : List (List ℕ × Kind)
kinds =
    (codes "unit", kind.Name)
    ∷ (codes "singleton", kind.Singleton)
    ∷ (codes "filter", kind.Filter)
    ∷ (codes "update", kind.Update)
    ∷ (codes "touchpoint", kind.Touchpoint)
    ∷ (codes "property", kind.Property)
    ∷ (codes "provides", kind.Provided)
    ∷ (codes "requires", kind.Required)
    ∷ (codes "artifact", kind.Artifact)
    ∷ (codes "phase", kind.Phase)
    ∷ (codes "end", kind.End)
    ∷ []

abbrev pub kind_rows : List Row
kind_rows =
    (codes "unit", 0)
    ∷ (codes "singleton", 1)
    ∷ (codes "filter", 2)
    ∷ (codes "update", 3)
    ∷ (codes "touchpoint", 4)
    ∷ (codes "property", 5)
    ∷ (codes "provides", 6)
    ∷ (codes "requires", 7)
    ∷ (codes "artifact", 8)
    ∷ (codes "phase", 9)
    ∷ (codes "end", 10)
    ∷ []
