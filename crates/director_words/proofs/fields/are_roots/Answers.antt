use Rattle.std.proofs.Common.{refl, sym, subst}
use Rattle.std.proofs.lemmas.List.{take_all}
use Rattle.std.proofs.lemmas.List.Elements.{All-more, All-get_or, All-same}
use Rattle.director_words.specs.Root.{IsRootWord}
use Rattle.director_words.proofs.fields.are_roots.Goals as goal

pub returns-then-not-branch : goal.returns-then-not-branch
returns-then-not-branch c =
    let word = c.word-item.result in (
      λ e. absurd (cc),
      λ all.
          let is = c.in_ok-is_root_word.ensures.1 (subst IsRootWord (sym c.word-item.is) (All-get_or IsRootWord c.args.words.now c.loop-word.word-index word c.loop-word-test.true all)) in
          absurd (cc),
    )

pub loop-word-preserved : goal.loop-word-preserved
loop-word-preserved c =
    let word = c.word-item.result in
    let is = c.in_ok-is_root_word.ensures.0 (cc) in
    All-more IsRootWord c.args.words.now c.loop-word.word-index word c.loop-word-test.true c.loop-word.invariant (subst IsRootWord c.word-item.is is)

pub returns : goal.returns
returns c = (
  λ _. All-same IsRootWord c.args.words.now _ (sym (take_all c.loop-word.word-index c.args.words.now c.loop-word-test.false)) c.loop-word.invariant,
  λ _. refl,
)
