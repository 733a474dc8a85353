-- The text of an explanation.
use Rattle.std.proofs.Common.{◌≡◌, ℕ, ◌-◌, min, List, ◌++◌, length, take, drop, replicate, ◌∙◌, ap}
use Rattle.std.proofs.lemmas.List.{drop-replicate}
use Rattle.dp_host.specs.Hosts.{padded}

-- a text in front of zeros is padded
pub padded_is : (n : ℕ) (text front room : List ℕ) → n ≡ min (length text) 127 → front ≡ take n text → length front ≡ n
    → room ≡ front ++ drop (length front) (replicate 128 0) → room ≡ padded text
padded_is n text front room least is long put =
    put ∙ ap (λ m. front ++ drop m (replicate 128 0)) long ∙ ap (λ l. front ++ l) (drop-replicate n 128 0)
    ∙ ap (λ l. l ++ replicate (128 - n) 0) is ∙ ap (λ m. take m text ++ replicate (128 - m) 0) least
