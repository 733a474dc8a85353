-- A packet that gains bytes at its front or end: so does its copy.
use Rattle.std.proofs.Common.{◌≡◌, ℕ, ◌+◌, ◌-◌, ◌≤◌, Bool, false, List, [], ◌∷◌, ◌++◌, length, Some, refl, ◌∙◌, ap, subst, arith, sym, replicate}
use Rattle.std.specs.Prelude.{slice_range}
use Rattle.std.specs.List.{AllByRecursion}
use Rattle.std.proofs.lemmas.List.{length-replicate, map-append}
use Rattle.dp_model.specs.declared.env.PoolSpec.{PoolSpec}
use Rattle.dp_model.specs.Environments.{room_at}
use Rattle.dp_model.specs.Buffers.{Number, same_number, Buffers, bytes_of, overwritten, written, IsNumber}
use Rattle.dp_model.specs.Packets.{Segment, Packet, refs, IsHeadSole, Lies, headroom, tailroom, IsTailSole, room_after, at_front, at_end, more_before}
use Rattle.dp_model.specs.Packets.{more_after, zeroed_after, zeroed_before}
use Rattle.dp_model.specs.Machine.{State, live, Holds, with_buffers, with_packet, Setting}
use Rattle.dp_model.specs.CopyMachine.{copy_put, with_front, with_back}
use Rattle.dp_model.specs.Copies.{piece_of, copy_of}
use Rattle.dp_model.specs.Laws.References.{refs-append, refs-cons, refs_first}
use Rattle.dp_model.specs.Laws.Cases.{one_if}
use Rattle.dp_model.specs.Laws.Stored.{bytes_other}
use Rattle.dp_model.specs.Laws.Within.{IsInside, inside_held}
use Rattle.dp_copies.proofs.States.{copied}
use Rattle.dp_copies.proofs.Parts.{range_before, range_after, written_at}
use Rattle.dp_copies.proofs.Lengths.{IsThere, there}
use Rattle.dp_copies.proofs.Writes.{wrote, rest_same}
use Rattle.dp_copies.proofs.Moves.{put_copies}

-- ---- at the front

-- the first segment with zeros before it
pub prepend_piece : (pools : List PoolSpec) (buffers : Buffers) (s : Segment) (n : ℕ) → n ≤ s.offset → IsThere pools buffers s →
    piece_of pools (written buffers s.buffer (s.offset - n) (replicate n 0)) (more_before n s) ≡ with_front n (piece_of pools buffers s)
prepend_piece pools buffers s n le there =
    let old = bytes_of buffers s.buffer in
    let zeros : List ℕ = replicate n 0 in
    let is : length zeros ≡ n = length-replicate {A = ℕ} n 0 in
    let e = written_at buffers s.buffer (s.offset - n) zeros (omega (arith, is, le, there.1)) in
    let bytes = ap (λ bs. slice_range bs (s.offset - n) (s.offset - n + (s.len + n))) e ∙ range_before old zeros s.offset s.len n is le there.1 in
    let beyond : room_at pools s.buffer.pool - (s.offset - n) - (s.len + n) ≡ room_at pools s.buffer.pool - s.offset - s.len = omega (arith, le, there.0) in
    λ i. record { before = s.offset - n; bytes = bytes i; beyond = beyond i }

-- prepend
pub prepend_copies : (c : Setting) (st : State) (p : ℕ) (k : Packet) (n : ℕ) (answers : List Bool) → Holds st p k → n ≤ headroom k → IsHeadSole (live st) k →
    IsInside c st → copied c.env.pools (with_packet p (at_front (more_before n) k) (with_buffers (zeroed_before n k st.world.buffers) st)) answers
    ≡ copy_put p (Some (at_front (with_front n) (copy_of c.env.pools st.world.buffers k))) (copied c.env.pools st answers)
prepend_copies c st p [] n answers holds le sole well = put_copies c.env.pools st p (Some []) answers
prepend_copies c st p (s ∷ rest) n answers holds le sole well =
    let pools = c.env.pools in
    let old = st.world.buffers in
    let new = zeroed_before n (s ∷ rest) old in
    let changes : (b : Number) → same_number s.buffer b ≡ false → bytes_of new b ≡ bytes_of old b =
    λ b other. bytes_other old s.buffer b (overwritten (bytes_of old s.buffer) (s.offset - n) (replicate n 0)) other in
    wrote pools st p (s ∷ rest) (more_before n s ∷ rest) s.buffer new _ answers holds changes sole (refs_first s rest)
    (ap (λ x. x ∷ copy_of pools new rest) (prepend_piece pools old s n le (there c st p (s ∷ rest) well holds).0)
    ∙ ap (λ xs. with_front n (piece_of pools old s) ∷ xs) (rest_same pools st p (s ∷ rest) rest s.buffer new holds changes sole
    (λ b. omega (arith, refs-cons s rest b))))

-- ---- at the end

-- the last segment with zeros after it
pub append_piece : (pools : List PoolSpec) (buffers : Buffers) (s : Segment) (n : ℕ) → s.offset + s.len + n ≤ length (bytes_of buffers s.buffer) →
    piece_of pools (written buffers s.buffer (s.offset + s.len) (replicate n 0)) (more_after n s) ≡ with_back n (piece_of pools buffers s)
append_piece pools buffers s n fits =
    let old = bytes_of buffers s.buffer in
    let zeros : List ℕ = replicate n 0 in
    let is : length zeros ≡ n = length-replicate {A = ℕ} n 0 in
    let e = written_at buffers s.buffer (s.offset + s.len) zeros (omega (arith, is, fits)) in
    let bytes = ap (λ bs. slice_range bs s.offset (s.offset + (s.len + n))) e ∙ range_after old zeros s.offset s.len n is fits in
    let beyond : room_at pools s.buffer.pool - s.offset - (s.len + n) ≡ room_at pools s.buffer.pool - s.offset - s.len - n = omega arith in
    λ i. record { before = s.offset; bytes = bytes i; beyond = beyond i }

pub record Ends (segments : List Segment) (k : Packet) : Type 0 where
  pub front : Packet
  pub last : Segment
  pub is : k ≡ front ++ last ∷ []
  pub sole : refs segments last.buffer ≡ 1

-- a packet that has segments has a last one
pub ends : (segments : List Segment) (s : Segment) (rest : Packet) → IsTailSole segments (s ∷ rest) → Ends segments (s ∷ rest)
ends segments s [] sole = record { front = []; last = s; is = refl; sole = sole }
ends segments s (t ∷ rest) sole =
    let e = ends segments t rest sole in
    record { front = s ∷ e.front; last = e.last; is = ap (λ k. s ∷ k) e.is; sole = e.sole }

-- what an edit at the end does to the last segment
pub at_end-push : {A : Type 0} (f : A → A) (front : List A) (x : A) → at_end f (front ++ x ∷ []) ≡ front ++ f x ∷ []
at_end-push f [] x = refl
at_end-push f (a ∷ []) x = refl
at_end-push f (a ∷ b ∷ front) x = ap (λ k. a ∷ k) (at_end-push f (b ∷ front) x)

-- the zeros after the last segment
pub zeroed_after-push : (n : ℕ) (front : Packet) (s : Segment) (buffers : Buffers) → zeroed_after n (front ++ s ∷ []) buffers
    ≡ written buffers s.buffer (s.offset + s.len) (replicate n 0)
zeroed_after-push n [] s buffers = refl
zeroed_after-push n (a ∷ []) s buffers = refl
zeroed_after-push n (a ∷ b ∷ front) s buffers = zeroed_after-push n (b ∷ front) s buffers

-- the tailroom is that of the last segment
pub tailroom-push : (pools : List PoolSpec) (front : Packet) (s : Segment) → tailroom pools (front ++ s ∷ []) ≡ room_after pools s
tailroom-push pools [] s = refl
tailroom-push pools (a ∷ []) s = refl
tailroom-push pools (a ∷ b ∷ front) s = tailroom-push pools (b ∷ front) s

-- the references with one segment more
refs_push : (front : Packet) (s : Segment) (b : Number) → refs (front ++ s ∷ []) b ≡ refs front b + one_if (same_number s.buffer b)
refs_push front s b = let none : refs [] b ≡ 0 = refl in omega (arith, refs-append front (s ∷ []) b, refs-cons s [] b, none)

-- append
pub append_copies : (c : Setting) (st : State) (p : ℕ) (k : Packet) (n : ℕ) (answers : List Bool) → Holds st p k → n ≤ tailroom c.env.pools k →
    IsTailSole (live st) k → IsInside c st → copied c.env.pools (with_packet p (at_end (more_after n) k)
    (with_buffers (zeroed_after n k st.world.buffers) st)) answers ≡ copy_put p (Some (at_end (with_back n) (copy_of c.env.pools st.world.buffers k)))
    (copied c.env.pools st answers)
append_copies c st p [] n answers holds le sole well = put_copies c.env.pools st p (Some []) answers
append_copies c st p (a ∷ rest) n answers holds le sole well =
    let e = ends (live st) a rest sole in
    subst (λ j. copied c.env.pools (with_packet p (at_end (more_after n) j) (with_buffers (zeroed_after n j st.world.buffers) st)) answers
    ≡ copy_put p (Some (at_end (with_back n) (copy_of c.env.pools st.world.buffers j))) (copied c.env.pools st answers)) (sym e.is)
    (pushed e.front e.last (subst (Holds st p) e.is holds) (subst (λ j. n ≤ tailroom c.env.pools j) e.is le) e.sole)
  where
    pushed : (front : Packet) (s : Segment) → Holds st p (front ++ s ∷ []) → n ≤ tailroom c.env.pools (front ++ s ∷ []) → refs (live st) s.buffer ≡ 1 →
        copied c.env.pools (with_packet p (at_end (more_after n) (front ++ s ∷ [])) (with_buffers (zeroed_after n (front ++ s ∷ []) st.world.buffers) st))
        answers ≡ copy_put p (Some (at_end (with_back n) (copy_of c.env.pools st.world.buffers (front ++ s ∷ [])))) (copied c.env.pools st answers)
    pushed front s holds le sole =
        let pools = c.env.pools in
        let old = st.world.buffers in
        let k = front ++ s ∷ [] in
        let bytes = overwritten (bytes_of old s.buffer) (s.offset + s.len) (replicate n 0) in
        let new = zeroed_after n k old in
        let is = zeroed_after-push n front s old in
        let changes : (b : Number) → same_number s.buffer b ≡ false → bytes_of new b ≡ bytes_of old b = λ b other. ap (λ bs. bytes_of bs b) is
        ∙ bytes_other old s.buffer b bytes other in
        let here = last_there front s (there c st p k well holds) in
        let one : 1 ≤ refs k s.buffer = omega (arith, refs_push front s s.buffer, refs_first s [], refs-cons s [] s.buffer) in
        let piece : piece_of pools new (more_after n s) ≡ with_back n (piece_of pools old s) =
        ap (λ bs. piece_of pools bs (more_after n s)) is ∙ append_piece pools old s n
        (omega (arith, le, tailroom-push pools front s, here.0, here.1, well.rooms s.buffer (number front s (inside_held c st p k well holds)))) in
        wrote pools st p k (at_end (more_after n) k) s.buffer new _ answers holds changes sole one
        (ap (copy_of pools new) (at_end-push (more_after n) front s)
        ∙ (map-append (piece_of pools new) front (more_after n s ∷ [])
        ∙ (ap (λ x. copy_of pools new front ++ x ∷ []) piece
        ∙ (ap (λ xs. xs ++ with_back n (piece_of pools old s) ∷ []) (rest_same pools st p k front s.buffer new holds changes sole
        (λ b. omega (arith, refs_push front s b)))
        ∙ (sym (at_end-push (with_back n) (copy_of pools old front) (piece_of pools old s))
        ∙ ap (at_end (with_back n)) (sym (map-append (piece_of pools old) front (s ∷ []))))))))
      where
        last_there : (front : Packet) (s : Segment) → AllByRecursion (IsThere c.env.pools st.world.buffers) (front ++ s ∷ []) →
            IsThere c.env.pools st.world.buffers s
        last_there [] s all = all.0
        last_there (x ∷ front) s all = last_there front s all.1

        number : (front : Packet) (s : Segment) → AllByRecursion (Lies c.env.pools) (front ++ s ∷ []) → IsNumber c.env.pools s.buffer
        number [] s all = all.0.number
        number (x ∷ front) s all = number front s all.1
