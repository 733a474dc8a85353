-- `pull` of a failing feed gives a front of what the inner feed has, cut where it is to fail.
use Rattle.std.proofs.Common.{◌≡◌, ℕ, ◌+◌, ◌-◌, ◌<◌, ◌≤◌, List, [], ◌++◌, Option, None, Some, rules, arith, length, take, drop, sym, ap, ◌∙◌, zero-le}
use Rattle.std.proofs.Common.{take_all, length-take-le, length-append, length-drop}
use Rattle.std.proofs.lemmas.List.{take-append-le}
use Rattle.std.proofs.Math.Seq.{take-append-add}
use Rattle.std.specs.Option.{option_map}
use Rattle.std.specs.Io.KnownBytes.{Consumes, IsAtEnd}
use Rattle.dp_pcap.proofs.failing_feed.FailingFeedFeed.pull.Goals as goal

-- a read into the front of a buffer, seen as one of no more than `limit` bytes
limit-Consumes : (a b : Option (List ℕ)) (part rest : List ℕ) {limit n : ℕ} → n ≤ length part → n ≤ limit → (0 < length (part ++ rest) → 0 < length part)
    → Consumes a b (take n part) × (n ≡ 0 → 0 < length part → IsAtEnd b)
    → Consumes (option_map (take limit) a) (option_map (take (limit - n)) b) (take n (part ++ rest))
    × (n ≡ 0 → 0 < length (part ++ rest) → IsAtEnd (option_map (take (limit - n)) b))
limit-Consumes None None part rest fits within room (read, end) = (tt, λ _ _. tt)
limit-Consumes None (Some ys) part rest {limit = limit} {n = n} fits within room (read, end) =
    (tt, λ zero some. ap (take (limit - n)) (end zero (room some)) ∙ take_all (limit - n) [] zero-le)
limit-Consumes (Some xs) None part rest fits within room (read, end) = absurd read
limit-Consumes (Some xs) (Some ys) part rest {limit = limit} {n = n} fits within room (read, end) =
    let front = take n part in
    let split : limit ≡ length front + (limit - n) = omega (arith, length-take-le n part fits) in (
      ap (take limit) read ∙ ap (λ k. take k (front ++ ys)) split ∙ take-append-add front ys (limit - n)
          ∙ ap (λ l. l ++ take (limit - n) ys) (sym (take-append-le n part rest fits)),
      λ zero some. ap (take (limit - n)) (end zero (room some)) ∙ take_all (limit - n) [] zero-le,
    )

pub returns-in-Ok-clause-bytes : goal.returns-in-Ok-clause-bytes
returns-in-Ok-clause-bytes g c =
    limit-Consumes _ _ _ _ c.in-Ok.ensures.bound (search rules)
    (λ h. omega (
      arith,
      h,
      c.pull.auto.buf,
      c.min-most.ensures,
      c.if-self-eq0.false,
      length-append c.pull.new.buf (drop c.min-most.result c.args.buf.now),
      length-drop c.min-most.result c.args.buf.now,
    )) c.in-Ok.ensures.bytes
