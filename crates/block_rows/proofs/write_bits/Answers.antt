use Rattle.std.proofs.Common.{refl, ◌*◌, ◌-◌, arith, length, take, drop, length-take, length-drop}
use lib.Pow.{pow_mono}
use Rattle.rows.specs.Trace.{inputs_bits}
use Rattle.block_rows.proofs.write_bits.Goals as goal

pub write_inputs-requires : goal.write_inputs-requires
write_inputs-requires c =
    let f = c.requires in
    record {
      list = f.list;
      few = f.few;
      size = omega (arith, f.size_is, pow_mono {i = c.args.m} {j = 10} f.most);
      stop = f.stop;
      past_is = refl;
      there = simp (length-take, length-drop) (omega (arith, f.history));
      room = f.input_room;
    }

pub write_words-requires : goal.write_words-requires
write_words-requires c =
    let a = c.args in
    let f = c.requires in
    let k = 3 * a.h in
    record {
      least = f.least;
      most = f.most;
      size = f.size_is;
      list = f.list;
      few = f.few;
      room = f.word_room;
      there = omega (arith, c.write_inputs.auto.inputs, f.input_room);
      bits = inputs_bits a.l a.p a.n a.count (length a.inputs.now) (take (length a.b.now - k) (drop k a.b.now)) _ c.write_inputs.ensures;
    }
