-- A test that every word, or byte, of a list passes.
use Rattle.std.specs.Prelude.{ℕ, Bool, true, ◌&&◌, List, [], ◌∷◌}

unfoldable pub every : (ℕ → Bool) → List ℕ → Bool
every test [] = true
every test (w ∷ l) = test w && every test l
