use Rattle.std.proofs.Common.{◌≢◌, []}
use Rattle.ldap_filter.proofs.EnvKeys.{IsEnvPair-lowered, not_empty}
use Rattle.ldap_filter.proofs.env.Env.set.Goals as goal

pub put-requires-clause-form : goal.put-requires-clause-form
put-requires-clause-form c =
    let some : c.args.value.now ≢ [] = not_empty c.args.value.now (rw c.bytes.ensures.value at c.if-is_empty.ensures) in
    rw (c.in_ok-key.ensures, c.in_ok-value.ensures) (IsEnvPair-lowered c.args.key.now c.args.value.now (c.is_env_key.ensures.0 c.if-not-is_env_key.false) some)
