-- `==` on environments compares their pairs.
use Rattle.std.specs.Prelude.{Bool, nat_eq, List}
use Rattle.std.specs.Cmp.{IsEquivalence}
use Rattle.std.specs.Cmp.Lexicographic.{pointwise, lists_equiv, nat_list_eq_equiv}
use Rattle.std.specs.Ordering.{on, eq_of_both}
use Rattle.std.proofs.lemmas.Cmp.{on_equiv, and_equiv}
use Rattle.ldap_filter.specs.EnvPairs.{EnvPair}

abbrev pub pair_eq : EnvPair → EnvPair → Bool
pair_eq = eq_of_both (on (λ p. p.0) (pointwise nat_eq)) (on (λ p. p.1) (pointwise nat_eq))

abbrev pub env_eq : List EnvPair → List EnvPair → Bool
env_eq = pointwise pair_eq

pub env_eq-equiv : IsEquivalence env_eq
env_eq-equiv = lists_equiv (and_equiv (on_equiv (λ p. p.0) nat_list_eq_equiv) (on_equiv (λ p. p.1) nat_list_eq_equiv))
