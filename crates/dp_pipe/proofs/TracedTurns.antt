-- Records that are traced, one after the other.
use Rattle.std.proofs.Common.{◌≡◌, ℕ, ◌+◌, List, [], ◌∷◌, ◌++◌, length, Option, refl, ◌∙◌, ap, arith}
use Rattle.std.proofs.lemmas.List.{length-append}
use Rattle.dp_model.specs.Machine.{Setting, World}
use Rattle.dp_model.specs.Runs.{Arrival, Nodes, with_empty_outboxes}
use Rattle.dp_model.specs.Laws.Lists.{all_join}
use Rattle.dp_pcap.specs.declared.time.Time.{Time}
use Rattle.dp_engine.specs.Engines.{EngineState}
use Rattle.dp_engine.specs.Watching.{Event}
use Rattle.dp_pipe.specs.Tracing.{Note, TracesTurn, Traces, IsTraced, HasTraced, TracesRead}
use Rattle.dp_pipe.proofs.RunOn.{arrival}

-- one record more
traces_more : {V : Type 0} (sees : V → Event → V → Type 0) (noted : V → Note → V → Type 0) (v mid v' : V) (c : Setting) (nodes : Nodes)
    (arrivals : List (Arrival Time)) (a : Arrival Time) (w0 w w' : World) → Traces sees noted v mid c nodes arrivals w0 w
    → TracesTurn sees noted mid v' c nodes a w w'
    → Traces sees noted v v' c nodes (arrivals ++ a ∷ []) w0 (with_empty_outboxes w')
traces_more sees noted v mid v' c nodes [] a w0 w w' (same, is) turn = (
  v',
  w',
  rw (same, is) at turn,
  (refl, refl),
)
traces_more sees noted v mid v' c nodes (b ∷ arrivals) a w0 w w' (next, turned, first, rest) turn =
    (next, turned, first, traces_more sees noted next mid v' c nodes arrivals a (with_empty_outboxes turned) w w' rest turn)

-- ---- engines

-- nothing yet
abbrev pub traced_none : {V : Type 0} (sees : V → Event → V → Type 0) (noted : V → Note → V → Type 0) (v : V) (only : Option ℕ) (e : EngineState)
    → HasTraced sees noted v v only 0 e e
traced_none sees noted v only e = record {
  arrivals = [];
  traces = (refl, refl);
  only_is = _;
  many = refl;
  setting = refl;
  nodes = refl;
  turns = omega arith;
}

-- a record more, after which all transmit lists are empty
pub traced_push : {V : Type 0} {sees : V → Event → V → Type 0} {noted : V → Note → V → Type 0} {v0 v v' : V} {only : Option ℕ} {count : ℕ}
    {e0 e e' : EngineState} {port : ℕ} {time : Time} (h : HasTraced sees noted v0 v only count e0 e) (r : TracesRead sees noted v v' port time e e')
    → IsTraced only port
    → (t : HasTraced sees noted v0 v' only (count + 1) e0 (record e' { world = with_empty_outboxes e'.world }))
    × (t.arrivals ≡ h.arrivals ++ arrival port time r.bytes ∷ [])
traced_push {sees = sees} {noted = noted} {v0 = v0} {v = v} {v' = v'} {only = only} {e0 = e0} {e = e} {e' = e'} {port = port} {time = time} h r of =
    let a : Arrival Time = arrival port time r.bytes in
    let turn = rw (h.setting, h.nodes) at r.traces in (
      record {
        arrivals = h.arrivals ++ a ∷ [];
        traces = traces_more sees noted v0 v v' e0.setting e0.nodes h.arrivals a e0.world e.world e'.world h.traces turn;
        only_is = all_join (λ (x : Arrival Time). IsTraced only x.port) h.arrivals (a ∷ []) h.only_is (of, tt);
        many = length-append h.arrivals (a ∷ []) ∙ ap (λ n. n + 1) h.many;
        setting = r.setting ∙ h.setting;
        nodes = r.nodes ∙ h.nodes;
        turns = omega (arith, r.turns, h.turns);
      },
      refl,
    )

traces_join : {V : Type 0} (sees : V → Event → V → Type 0) (noted : V → Note → V → Type 0) (v mid v' : V) (c : Setting) (nodes : Nodes)
    (arrivals more : List (Arrival Time)) (w0 w w' : World) → Traces sees noted v mid c nodes arrivals w0 w → Traces sees noted mid v' c nodes more w w'
    → Traces sees noted v v' c nodes (arrivals ++ more) w0 w'
traces_join sees noted v mid v' c nodes [] more w0 w w' (same, is) rest = rw (same, is) at rest
traces_join sees noted v mid v' c nodes (a ∷ arrivals) more w0 w w' (next, turned, first, others) rest =
    (next, turned, first, traces_join sees noted next mid v' c nodes arrivals more (with_empty_outboxes turned) w w' others rest)

-- a round after others
pub traced_join : {V : Type 0} {sees : V → Event → V → Type 0} {noted : V → Note → V → Type 0} {v0 v v' : V} {only : Option ℕ} {count more : ℕ}
    {e0 e e' : EngineState} → HasTraced sees noted v0 v only count e0 e → HasTraced sees noted v v' only more e e'
    → HasTraced sees noted v0 v' only (count + more) e0 e'
traced_join {sees = sees} {noted = noted} {v0 = v0} {v = v} {v' = v'} {only = only} {count = count} {e0 = e0} {e = e} {e' = e'} h r =
    let rest = rw (h.setting, h.nodes) at r.traces in
    record {
      arrivals = h.arrivals ++ r.arrivals;
      traces = traces_join sees noted v0 v v' e0.setting e0.nodes h.arrivals r.arrivals e0.world e.world e'.world h.traces rest;
      only_is = all_join (λ (x : Arrival Time). IsTraced only x.port) h.arrivals r.arrivals h.only_is r.only_is;
      many = length-append h.arrivals r.arrivals ∙ (ap (λ n. n + length r.arrivals) h.many ∙ ap (λ n. count + n) r.many);
      setting = r.setting ∙ h.setting;
      nodes = r.nodes ∙ h.nodes;
      turns = omega (arith, r.turns, h.turns);
    }
