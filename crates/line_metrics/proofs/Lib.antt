pub mod MetricsText
