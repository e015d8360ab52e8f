use Rattle.std.proofs.Common.{◌-◌, ◌/◌, ◌%◌, ◌^◌, ap, ◌∙◌, arith}
use Rattle.rules.proofs.Bitmaps.{word_bits}
use Rattle.pool.proofs.configure.word.Goals as goal

pub returns : goal.returns
returns c k h =
    ap (λ w. w / 2 ^ (31 - k) % 2) c.from_be_bytes.ensures ∙ word_bits c.args.a c.args.b c.args.c c.args.d k (omega arith) (omega arith) (omega arith) h
