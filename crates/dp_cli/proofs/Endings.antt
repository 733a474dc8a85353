-- How a reply ends.
use Rattle.std.proofs.Common.{◌≡◌, ◌∙◌, ◌⊎◌, inl, inr, ℕ, Bool, true, List, Option}
use Rattle.dp_console.specs.{declared.reply.Reply.Reply, Replies.EndsWith, Replies.Prints}

-- the status is 4, or 3 if it could not be reported
pub without_memory : (reply : Reply) (f f' : Bool) (out out' err err' : Option (List ℕ)) (s : ℕ) → reply.status ≡ 4
    → EndsWith reply f f' out out' err err' s → (s ≡ 3) ⊎ (s ≡ 4)
without_memory reply f f' out out' err err' s four (inl ended) = inr (ended.0 ∙ four)
without_memory reply f f' out out' err err' s four (inr (inl ended)) = inl ended.0
without_memory reply f f' out out' err err' s four (inr (inr ended)) = inr ended.0

still_failed : (written f f' : Bool) (out out' words : Option (List ℕ)) → f ≡ true → Prints written f f' out out' words → f' ≡ true
still_failed written f f' out out' words e (inl printed) = printed.1 ∙ e
still_failed written f f' out out' words e (inr failed) = failed.1

-- after a write failed a line more changes nothing of that
pub still : (reply : Reply) (f f' f'' written : Bool) (out out' err err' to to' any any' words : Option (List ℕ)) (s : ℕ) → f' ≡ true
    → EndsWith reply f f' out out' err err' s → Prints written f' f'' to to' words → EndsWith reply f f'' out any err any' s
still reply f f' f'' written out out' err err' to to' any any' words s e (inl ended) p = cc
still reply f f' f'' written out out' err err' to to' any any' words s e (inr (inl ended)) p =
    inr (inl (ended.0, still_failed written f' f'' to to' words e p))
still reply f f' f'' written out out' err err' to to' any any' words s e (inr (inr ended)) p = inr (inr ended)
