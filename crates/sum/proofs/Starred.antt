-- Every starred sample case gives its samples and its T, in Six's cases of both editions, by computation. Assumes nothing.
use mathlib.Core.Path.{◌≡◌, refl}
use mathlib.Core.List.{map}
use Rattle.word.specs.Word.{signed_of}
use Rattle.sum.specs.Sample.{side_of}
use Rattle.sum.specs.Starred.{samples_given, starred_samples, editions_given, starred_editions}

pub as_starred : map samples_given starred_samples ≡ starred_samples
unfolding signed_of side_of
as_starred = refl

pub as_starred_editions : map editions_given starred_editions ≡ starred_editions
unfolding signed_of side_of
as_starred_editions = refl
