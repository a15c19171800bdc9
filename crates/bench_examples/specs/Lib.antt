pub mod BenchExamples
