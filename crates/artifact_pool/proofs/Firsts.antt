-- The first digest of a path, when one more is named behind those before.
use Rattle.std.proofs.Common.{◌≡◌, ◌≢◌, inl, inr, ℕ, List, [], ◌∷◌, ◌++◌, Option, Some, None, refl, sym, ◌∙◌}
use Rattle.artifact_pool.specs.DigestText.{IsFirst}
use Rattle.artifact_pool.specs.declared.digest_line.KnownDigest.{KnownDigest}

pub first_new : (before : List KnownDigest) (k : KnownDigest) (path : List (List ℕ)) (found : Option (List ℕ)) → found ≡ None → k.path ≡ path → IsFirst before path found → IsFirst (before ++ k ∷ []) path (Some k.digest)
first_new [] k path found none same is = inl (same, refl)
first_new (b ∷ before) k path found none same (inl here) = absurd (let no : None ≡ Some b.digest = sym none ∙ here.1 in cc)
first_new (b ∷ before) k path found none same (inr there) = inr (there.0, first_new before k path found none same there.1)

pub first_other : (before : List KnownDigest) (k : KnownDigest) (path : List (List ℕ)) (found : Option (List ℕ)) → k.path ≢ path → IsFirst before path found → IsFirst (before ++ k ∷ []) path found
first_other [] k path found other is = inr (other, is)
first_other (b ∷ before) k path found other (inl here) = inl here
first_other (b ∷ before) k path found other (inr there) = inr (there.0, first_other before k path found other there.1)

pub first_had : (before : List KnownDigest) (k : KnownDigest) (path : List (List ℕ)) (found : Option (List ℕ)) → found ≢ None → IsFirst before path found → IsFirst (before ++ k ∷ []) path found
first_had [] k path found had is = absurd (had is)
first_had (b ∷ before) k path found had (inl here) = inl here
first_had (b ∷ before) k path found had (inr there) = inr (there.0, first_had before k path found had there.1)
