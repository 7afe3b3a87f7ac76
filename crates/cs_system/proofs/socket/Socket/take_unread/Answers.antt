use Rattle.std.proofs.Common.{◌≡◌, ◌∙◌, ap, sym, ◌+◌, ◌≤◌, ◌++◌, take, drop, length, [], arith}
use Rattle.std.proofs.lemmas.List.{length-take}
use Rattle.cs_system.specs.Unread.{unread_of}
use Rattle.cs_system.proofs.UnreadLemmas.{lent_rest, left_behind, left_none}
use Rattle.cs_system.proofs.socket.Socket.take_unread.Goals.{then-self-len, else-self-len}
use Rattle.cs_system.proofs.socket.Socket.take_unread.Goals as goal

pub returns-clause-next : goal.returns-clause-next
returns-clause-next g c =
    let bytes = c.args.self.now.unread.items in
    let given = c.args.self.now.given in
    let count = c.min-count.result in
    let copy = c.copy_from_slice.new.self in
    let out = drop count c.args.into.now in
    let n = c.first_part-part.result.count in
    let rest : c.in_ok-rest.rest.now ≡ drop given bytes = lent_rest c.deref.result.now c.in_ok-rest.rest.now given c.in_ok-rest.ensures.lookup.0.2 ∙ ap (drop given) c.deref.ensures.value in
    let copied : copy ≡ take count (drop given bytes) = c.copy_from_slice.ensures.after ∙ ap (take count) rest in
    let below : n ≤ count = omega (arith, c.first_part-part.ensures.within, length-take count (copy ++ out)) in
    let within : count ≤ length (drop given bytes) = omega (arith, c.min-count.ensures, ap length rest) in
    let size : length c.deref.result.now ≡ length bytes = ap length c.deref.ensures.value in
    elim c.if-self-len.branch [
      | then-self-len w ↦
          let left : unread_of c.hear.new.self ≡ [] = c.hear.ensures.unread ∙ ap unread_of w.self-is ∙ ap (drop 0) w.new.ensures.items in
          let all : length bytes ≤ given + n = omega (arith, w.if-self-len.true, c.saturating_add-self.ensures, c.len.ensures, c.deref.ensures.len, size) in
          left_none bytes copy out given count n copied below within all ∙ ap (λ l. take n (copy ++ out) ++ l) (sym left)
      | else-self-len w ↦
          let place : c.saturating_add-self.result ≡ given + n = omega (arith, c.saturating_add-self.ensures, below, c.min-count.ensures, c.in_ok-rest.ensures.lookup.0.3, c.deref.ensures.len, size, c.args.self.now.unread.small) in
          let left : unread_of c.hear.new.self ≡ drop (given + n) bytes = c.hear.ensures.unread ∙ ap unread_of w.self-is ∙ ap (λ k. drop k bytes) place in
          left_behind bytes copy out given count n copied below within ∙ ap (λ l. take n (copy ++ out) ++ l) (sym left)
    ]
