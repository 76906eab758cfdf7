use Rattle.std.proofs.Common.{◌≡◌, true, [], ◌++◌, Ok, Some, inl, ap, arith}
use Rattle.std.specs.Fmt.{decimal}
use Rattle.std.specs.Str.{bytes_eq}
use Rattle.std.proofs.lemmas.Fmt.{parse-decimal}
use Rattle.std.proofs.lemmas.Slice.Eq.{bytes_eq-Decides}
use Rattle.director_words.proofs.number.read_number.Goals as goal

pub returns-in_default-clause-only : goal.returns-in_default-clause-only
returns-in_default-clause-only c = λ n d.
    let read : c.parse.result ≡ Ok n = parse-decimal 32 n c.args.word.now c.parse.result d.1 (omega arith) d.0 c.parse.ensures.value.0 in
    absurd (cc)

pub returns-then-eq-clause-only : goal.returns-then-eq-clause-only
returns-then-eq-clause-only c = λ n d.
    let read : c.parse.result ≡ Ok n = parse-decimal 32 n c.args.word.now c.parse.result d.1 (omega arith) d.0 c.parse.ensures.value.0 in
    let same : c.in-Ok.number ≡ n = cc in
    inl (ap (λ m. Ok (Some m)) same)

pub returns-clause-only : goal.returns-clause-only
returns-clause-only c = λ n d.
    let read : c.parse.result ≡ Ok n = parse-decimal 32 n c.args.word.now c.parse.result d.1 (omega arith) d.0 c.parse.ensures.value.0 in
    let same : c.in-Ok.number ≡ n = cc in
    let digits : c.push_number.new.line.items ≡ [] ++ decimal n = cc (c.in_ok-push_number.ensures) in
    let text : c.as_slice.result.now ≡ c.as_bytes.result.now = cc in
    let equal : bytes_eq c.as_slice.result.now c.as_bytes.result.now ≡ true = (bytes_eq-Decides c.as_slice.result.now c.as_bytes.result.now).1 text in
    absurd (cc)
