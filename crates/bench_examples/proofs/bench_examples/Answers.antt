-- `bench_examples::bench_examples` meets its contract. Assumes nothing.
use Rattle.bench_examples.proofs.Examples as Examples
use Rattle.bench_examples.proofs.bench_examples.Goals as goal

pub returns : goal.returns
returns c = Examples.bench_examples
