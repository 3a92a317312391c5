-- Laws of `window_keeping`.
pub mod Bursts
